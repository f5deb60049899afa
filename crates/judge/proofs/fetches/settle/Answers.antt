use Rattle.std.proofs.Common.{arith, length-append}
use Rattle.judge.proofs.FetchLaws.{settled_next, length_fetched}
use Rattle.judge.proofs.fetches.settle.Goals as goal

pub push-requires : goal.push-requires
push-requires c =
    let room = c.requires.1 in
    let more = c.loop-i-test.true in
    rw (c.loop-i.invariant, length-append, length_fetched) (omega arith)

pub loop-i-preserved : goal.loop-i-preserved
loop-i-preserved c = settled_next _ _ _ _ _ _ _ c.read32.ensures c.loop-i.invariant c.push.ensures
