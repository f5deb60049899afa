use Rattle.min.specs.inner.Run.{Counting}
use Rattle.min.proofs.run.Pass.counts.Given as goal

abbrev pub invariant-loop-t : goal.invariant-loop-t
invariant-loop-t l = Counting l.self.k l.self.a l.t l.bundles l.loads l.self.trace.now l.held
