-- `marked::marks_formed` meets its contract: fine says whether the marks looked at are 0 or 1.
use mathlib.Core.Path.{◌≡◌}
use lib.ListN.{take}
use Rattle.marking.specs.Lists.{all_marks}
use Rattle.marked.proofs.marks_formed.Given as goal

abbrev pub invariant-loop-mark : goal.invariant-loop-mark
invariant-loop-mark l = l.fine ≡ all_marks (take l.mark-index l.marks)
