-- `repeats::marks::new_pages_only` meets its contract: the pages before place i are repeat-free, and their marks are set.
use Rattle.repeats.proofs.FreshLaws.{Fresh}
use Rattle.repeats.proofs.marks.new_pages_only.Given as goal

abbrev pub invariant-loop-i : goal.invariant-loop-i
invariant-loop-i l = Fresh l.mask l.marks l.pages l.i
