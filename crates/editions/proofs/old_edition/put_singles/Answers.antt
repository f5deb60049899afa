use Rattle.editions.proofs.Written.{singles_first, singles_fit, singles_next}
use Rattle.editions.proofs.old_edition.put_singles.Goals as goal

pub loop-i-init : goal.loop-i-init
loop-i-init c =
    singles_first c.args.file.now c.args.n c.args.out.now c.requires.0 c.requires.1

pub put_requests-at-requires : goal.put_requests-at-requires
put_requests-at-requires c =
    let found = c.next_record-found in
    singles_fit _ _ _ _ _ _ _ c.loop-i.invariant found.result found.ensures

pub loop-i-preserved : goal.loop-i-preserved
loop-i-preserved c =
    let put = c.put_requests-at in
    let found = c.next_record-found in
    let inv = c.loop-i.invariant in
    singles_next _ _ _ _ _ _ _ inv found.result found.ensures put.result put.new.out put.ensures.0 put.ensures.1
