use native.Mathlib.Omega.{arith}
use mathlib.Core.Path.{refl}
use Rattle.layers.proofs.Reading.{tally_start, tally_low, tally_one, tally_skip}
use Rattle.layers.proofs.formed.tally.Goals as goal
use Rattle.layers.proofs.formed.tally.Goals.{then-n-lt-NUMBERS, else-n-lt-NUMBERS}

pub loop-number-init : goal.loop-number-init
loop-number-init c = tally_start c.args.numbers.now

pub overflow_add-sizes : goal.overflow_add-sizes
overflow_add-sizes c =
    let numbers = c.args.numbers.now in
    let loop = c.loop-number in
    let low = tally_low numbers loop.sizes loop.number-index _ c.loop-number-test.true loop.invariant refl c.if-n-lt-NUMBERS.true in
    omega arith

pub loop-number-preserved : goal.loop-number-preserved
loop-number-preserved c =
    let numbers = c.args.numbers.now in
    let loop = c.loop-number in
    elim c.if-n-lt-NUMBERS.branch [
      | then-n-lt-NUMBERS w ↦ rw w.sizes-is (tally_one numbers loop.sizes loop.number-index _ c.loop-number-test.true loop.invariant refl w.if-n-lt-NUMBERS.true)
      | else-n-lt-NUMBERS w ↦ rw w.sizes-is (tally_skip numbers loop.sizes loop.number-index _ c.loop-number-test.true loop.invariant refl w.if-n-lt-NUMBERS.false)
    ]
