-- `lists::moves::fill_zero` meets its contract: the first i places are zero, the others as they were.
use Rattle.std.proofs.Common.{◌≡◌, length, replicate}
use Rattle.lists.specs.Places.{over}
use Rattle.lists.proofs.moves.fill_zero.Given as goal

abbrev pub invariant-loop-i : goal.invariant-loop-i
invariant-loop-i l = l.pages ≡ over (replicate (length l.initial.pages) 0) l.initial.pages l.i
