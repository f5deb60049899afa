use Rattle.next_use.specs.Chains.{Chained}
use Rattle.next_use.proofs.chain.Given as goal

abbrev pub invariant-loop-t : goal.invariant-loop-t
invariant-loop-t l = Chained l.t l.trace l.heads l.before
