use mathlib.Core.List.{map}
use mathlib.Core.Path.{◌≡◌}
use Rattle.lists.specs.Places.{over}
use Rattle.keys.specs.Keys.{page_of}
use Rattle.min.proofs.write.copy_pages.Given as goal

abbrev pub invariant-loop-i : goal.invariant-loop-i
invariant-loop-i l = l.pages ≡ over (map page_of l.bundle) l.initial.pages l.i
