use Prim.Native.Nat.{◌≤◌}
use mathlib.Core.Path.{◌≡◌}
use Rattle.layers.specs.inner.Sizes.{single_in}
use Rattle.layers.proofs.formed.single_above.Given as goal

abbrev pub invariant-loop-i : goal.invariant-loop-i
invariant-loop-i l = (l.i ≤ l.s) × (single_in l.limit l.s l.sizes ≡ single_in l.limit l.i l.sizes)
