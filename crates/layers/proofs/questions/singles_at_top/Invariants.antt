use Prim.Native.Nat.{◌+◌}
use mathlib.Core.Path.{◌≡◌}
use Rattle.paging.specs.Table.{revealed}
use Rattle.layers.specs.inner.Sizes.{numbered}
use Rattle.layers.proofs.questions.singles_at_top.Given as goal

abbrev pub invariant-loop-i : goal.invariant-loop-i
invariant-loop-i l = (l.i + l.n ≡ l.s) × (revealed l.s (numbered l.numbers) ≡ l.n + revealed l.i (numbered l.numbers))
