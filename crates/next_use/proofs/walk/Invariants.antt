use Prim.Native.Nat.{ℕ, suc, ◌≤◌}
use mathlib.Core.Path.{◌≡◌}
use lib.ListN.{length}
use Rattle.next_use.specs.Chains.{Walked, low, page_at}
use Rattle.next_use.proofs.walk.Given as goal

abbrev pub invariant-loop-s : goal.invariant-loop-s
invariant-loop-s l = (l.s ≤ length l.trace) × (((t : ℕ) → l.s ≡ suc t → low (page_at l.trace t) ≡ l.c) × Walked l.c l.s l.trace l.seen l.lefts)

abbrev pub decreases-loop-s : goal.decreases-loop-s
decreases-loop-s l = l.s
