-- `repeats::chains::chained_once` meets its contract: the pages before place i are repeat-free, and each is in its slot's chain.
use Rattle.repeats.proofs.ChainLaws.{Threaded}
use Rattle.repeats.proofs.chains.chained_once.Given as goal

abbrev pub invariant-loop-i : goal.invariant-loop-i
invariant-loop-i l = Threaded l.mask l.pages l.heads l.before l.i
