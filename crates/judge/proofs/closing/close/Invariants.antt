use Rattle.judge.proofs.ClosingLaws.{Closes}
use Rattle.judge.proofs.closing.close.Given as goal

abbrev pub invariant-loop-done : goal.invariant-loop-done
invariant-loop-done l = Closes l.files.trace.now l.files.k l.initial.rest l.count l._done l.initial.held l.rest l.held
