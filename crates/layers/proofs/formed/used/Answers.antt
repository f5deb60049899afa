use native.Mathlib.Omega.{arith}
use lib.Dec.{ltb}
use lib.ListN.{get_or}
use Rattle.lists.proofs.Leaves.{byte_one}
use Rattle.layers.proofs.Reading.{used_next}
use Rattle.layers.proofs.formed.used.Goals as goal

pub loop-number-preserved : goal.loop-number-preserved
loop-number-preserved c =
    let loop = c.loop-number in
    let told = c.from-n.ensures in
    let one = byte_one (ltb 0 (get_or c.args.numbers.now loop.number-index 0)) in
    (omega arith, rw told (used_next c.args.numbers.now loop.number-index loop.n c.loop-number-test.true loop.invariant.1))
