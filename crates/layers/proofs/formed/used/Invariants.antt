use Prim.Native.Nat.{◌≤◌}
use mathlib.Core.Path.{◌≡◌}
use lib.Dec.{ltb}
use lib.ListN.{take}
use Rattle.lists.specs.Pages.{count}
use Rattle.layers.proofs.formed.used.Given as goal

abbrev pub invariant-loop-number : goal.invariant-loop-number
invariant-loop-number l = (l.n ≤ l.number-index) × (l.n ≡ count (λ m. ltb 0 m) (take l.number-index l.numbers))
