use Rattle.editions.proofs.Written.{runs_first, runs_fit, runs_next, runs_done}
use Rattle.editions.proofs.new_edition.put_runs.Goals as goal

pub loop-i-init : goal.loop-i-init
loop-i-init c =
    runs_first c.args.file.now c.args.n c.args.out.now c.requires.0 c.requires.1

pub put_run-at-requires : goal.put_run-at-requires
put_run-at-requires c =
    let run = c.next_run-run in
    let taken = run.ensures in
    (taken.few, runs_fit _ _ _ _ _ _ _ c.loop-i.invariant run.result.page run.result.times run.result.left taken)

pub loop-i-preserved : goal.loop-i-preserved
loop-i-preserved c =
    let put = c.put_run-at in
    let run = c.next_run-run in
    let inv = c.loop-i.invariant in
    runs_next _ _ _ _ _ _ _ inv run.result.page run.result.times run.result.left run.ensures put.result put.new.out put.ensures.0 put.ensures.1

pub returns : goal.returns
returns c = runs_done _ _ _ _ _ _ _ c.loop-i.invariant c.loop-i-test.false
