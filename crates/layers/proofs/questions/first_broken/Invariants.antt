use Prim.Native.Nat.{ℕ, suc, ◌≤◌, ◌<◌}
use mathlib.Core.Path.{◌≡◌}
use Rattle.layers.specs.inner.Sizes.{sum_below}
use Rattle.layers.proofs.questions.first_broken.Given as goal

abbrev pub invariant-loop-i : goal.invariant-loop-i
invariant-loop-i l = (l.total ≡ sum_below l.i l.sizes) × (l.total ≤ l.i) × ((j : ℕ) → j < l.i → sum_below (suc j) l.sizes ≤ j)
