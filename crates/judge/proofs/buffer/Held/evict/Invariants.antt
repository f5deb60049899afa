use Rattle.judge.proofs.BufferLaws.{Evicts}
use Rattle.judge.proofs.buffer.Held.evict.Given as goal

abbrev pub invariant-loop-i : goal.invariant-loop-i
invariant-loop-i l = Evicts l.schedule l.from l.count l.i l.initial.self l.self
