use Rattle.min.specs.inner.Run.{Writing}
use Rattle.min.proofs.write.put_bundles.Given as goal

abbrev pub invariant-loop-t : goal.invariant-loop-t
invariant-loop-t l = Writing l.pass.k l.pass.a l.t l.at l.from l.pass.trace.now l.held l.initial.out l.out
