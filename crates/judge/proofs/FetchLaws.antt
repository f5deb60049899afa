-- Laws of the PFs read off the file.
use Prim.Native.Nat.{ℕ, zero, suc, ◌+◌, ◌-◌, ◌*◌, ◌<◌}
use native.Mathlib.Omega.{arith}
use mathlib.Core.Bool.{true, false}
use mathlib.Core.List.{List, [], ◌∷◌, ◌++◌, append_assoc}
use mathlib.Core.Path.{◌≡◌, refl, sym, ap}
use lib.Dec.{eqb}
use lib.ListN.{length, drop}
use borrow.Author.Tests.{eq-eqb, ne_eqb}
use Rattle.lists.specs.Choice.{◌or◌}
use Rattle.lists.specs.Pages.{mem}
use Rattle.wire.specs.Numbers.{num32}
use Rattle.judge.specs.inner.Fetches.{fetched_pages}

pub length_fetched : (s : List ℕ) (from count : ℕ) → length (fetched_pages s from count) ≡ count
length_fetched s from zero = refl
length_fetched s from (suc count) = ap suc (length_fetched s (from + 10) count)

-- one more PF behind them
pub fetched_snoc : (s : List ℕ) (from count : ℕ) → fetched_pages s from (count + 1) ≡ fetched_pages s from count ++ (num32 (drop (from + 10 * count + 6) s) ∷ [])
fetched_snoc s from zero = let d : from + 10 * 0 + 6 ≡ from + 6 = omega arith in rw d
fetched_snoc s from (suc count) =
    let e : suc count + 1 ≡ suc (count + 1) = omega arith in
    let d : from + 10 * suc count + 6 ≡ from + 10 + 10 * count + 6 = omega arith in
    rw (e, d) (ap (λ (l : List ℕ). num32 (drop (from + 6) s) ∷ l) (fetched_snoc s (from + 10) count))

-- the first of them, and the rest
pub first_fetch : (s : List ℕ) (at left : ℕ) → 0 < left → fetched_pages s at left ≡ num32 (drop (at + 6) s) ∷ fetched_pages s (at + 10) (left - 1)
first_fetch s at zero h = absurd (omega arith)
first_fetch s at (suc left) h = let e : suc left - 1 ≡ left = omega arith in rw e

-- Whether a page is among those from the `done`th on

abbrev pub behind : (s : List ℕ) (from count done : ℕ) → List ℕ
behind s from count done = fetched_pages s (from + 10 * done) (count - done)

module _ (s : List ℕ) (from count done page other : ℕ) (h : done < count) (e : other ≡ num32 (drop (from + 10 * done + 6) s)) where
  next : behind s from count done ≡ other ∷ behind s from count (done + 1)
  next =
      let a : from + 10 * done + 10 ≡ from + 10 * (done + 1) = omega arith in
      let b : count - done - 1 ≡ count - (done + 1) = omega arith in
      rw (e, ← a, ← b) (first_fetch s (from + 10 * done) (count - done) (omega arith))

  pub fetched_here : other ≡ page → mem page (behind s from count done) ≡ true
  unfolding ◌or◌
  fetched_here q = let m : eqb page other ≡ true = eq-eqb _ _ (sym q) in rw (next, m)

  pub fetched_next : (other ≡ page → ⊥) → mem page (behind s from count done) ≡ mem page (behind s from count (done + 1))
  unfolding ◌or◌
  fetched_next q = let m : eqb page other ≡ false = ne_eqb _ _ (λ w. q (sym w)) in rw (next, m)

-- one more of them joins the pages held
pub settled_next : (s : List ℕ) (from done page : ℕ) (first held after : List ℕ) → page ≡ num32 (drop (from + 10 * done + 6) s)
    → held ≡ first ++ fetched_pages s from done → after ≡ held ++ (page ∷ []) → after ≡ first ++ fetched_pages s from (done + 1)
settled_next s from done page first held after e h w =
    rw (w, h, fetched_snoc s from done, ← e) (append_assoc first (fetched_pages s from done) (page ∷ []))
