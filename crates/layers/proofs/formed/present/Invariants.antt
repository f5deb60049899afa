use Prim.Native.Nat.{◌≤◌}
use mathlib.Core.Path.{◌≡◌}
use Rattle.layers.specs.inner.Sizes.{present_in}
use Rattle.layers.proofs.formed.present.Given as goal

abbrev pub invariant-loop-i : goal.invariant-loop-i
invariant-loop-i l = (l.i ≤ l.s) × (present_in l.s l.sizes ≡ present_in l.i l.sizes)
