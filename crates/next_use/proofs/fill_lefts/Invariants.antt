use Rattle.next_use.specs.Chains.{LeftsFilled}
use Rattle.next_use.proofs.fill_lefts.Given as goal

abbrev pub invariant-loop-c : goal.invariant-loop-c
invariant-loop-c l = LeftsFilled l.c l.trace l.seen l.lefts
