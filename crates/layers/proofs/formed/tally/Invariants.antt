use lib.ListN.{take}
use Rattle.layers.specs.inner.Sizes.{Tallied}
use Rattle.layers.proofs.formed.tally.Given as goal

abbrev pub invariant-loop-number : goal.invariant-loop-number
invariant-loop-number l = Tallied (take l.number-index l.numbers) l.sizes
