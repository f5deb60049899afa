-- `marked::rises` meets its contract: fine says whether the first i pages rise.
use mathlib.Core.Path.{◌≡◌}
use lib.ListN.{take}
use Rattle.marking.specs.Lists.{rising}
use Rattle.marked.proofs.rises.Given as goal

abbrev pub invariant-loop-i : goal.invariant-loop-i
invariant-loop-i l = l.fine ≡ rising (take l.i l.pages)
