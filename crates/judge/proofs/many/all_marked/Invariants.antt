use Rattle.repeats.specs.Bits.{AllMarked}
use Rattle.judge.specs.inner.Fetches.{fetched_pages}
use Rattle.judge.proofs.many.all_marked.Given as goal

abbrev pub invariant-loop-i : goal.invariant-loop-i
invariant-loop-i l = AllMarked l.marks.bits (fetched_pages l.schedule l.from l.i)
