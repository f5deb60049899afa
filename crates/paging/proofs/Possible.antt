-- The rule of possible sets at each layer, and the smallest layer at which it breaks.
use Prim.Native.Nat.{ℕ, zero, suc, ◌≤◌, ◌<◌}
use native.Mathlib.Omega.{arith}
use mathlib.Core.Bool.{true, false}
use mathlib.Core.List.{List}
use mathlib.Core.Path.{◌≡◌, sym}
use lib.Dec.{eqb, leb}
use lib.ListN.{length}
use borrow.Author.Tests.{eqb-true, leb-true, leb-false, ltb-true, ltb-false, le-leb, le-ltb, lt-ltb}
use Rattle.lists.proofs.Choice.{tests, cases, clash, and_l, and_r, and_i}
use Rattle.lists.proofs.Pages.{count_length}
use Rattle.paging.specs.Layers.{Layers, up_to, breaks_at, holds_up_to, lowest_broken, BreaksFirstAt}

-- the rule holds up to s where it holds at each layer, and only there

pub holds_at : (L : Layers) (set : List ℕ) (s : ℕ) → holds_up_to L set s ≡ true → (i : ℕ) → i ≤ s → up_to L i set ≤ i
holds_at L set zero h i l = let z : i ≡ 0 = omega arith in rw z (leb-true _ _ h)
holds_at L set (suc s) h i l =
    cases (leb i s)
    (λ e. holds_at L set s (and_r _ _ h) i (leb-true _ _ e))
    (λ e. let z : i ≡ suc s = omega tests in rw z (leb-true _ _ (and_l _ _ h)))

pub holds_of : (L : Layers) (set : List ℕ) (s : ℕ) → ((i : ℕ) → i ≤ s → up_to L i set ≤ i) → holds_up_to L set s ≡ true
holds_of L set zero h = le-leb _ _ (h 0 (omega arith))
holds_of L set (suc s) h = and_i _ _ (le-leb _ _ (h (suc s) (omega arith))) (holds_of L set s (λ i l. h i (omega arith)))

pub holds_not : (L : Layers) (set : List ℕ) (s i : ℕ) → i ≤ s → i < up_to L i set → holds_up_to L set s ≡ false
holds_not L set s i l b = cases (holds_up_to L set s) (λ h. absurd (omega (arith, holds_at L set s h i l))) (λ h. h)

-- where it does not hold up to s, it breaks at the layer that is named, and at none below

pub lowest_breaks_first : (L : Layers) (set : List ℕ) (s : ℕ) → holds_up_to L set s ≡ false → BreaksFirstAt L set (lowest_broken L set s)
lowest_breaks_first L set zero h = record { breaks = lt-ltb 0 (up_to L 0 set) (leb-false (up_to L 0 set) 0 h); none_lower = λ j l. absurd (omega arith) }
lowest_breaks_first L set (suc s) h =
    cases (holds_up_to L set s)
    (λ e. rw e (record {
      breaks = lt-ltb (suc s) _ (higher e);
      none_lower = λ j l. le-ltb j _ (holds_at L set s e j (omega arith));
    }))
    (λ e. rw e (lowest_breaks_first L set s e))
  where
    higher : holds_up_to L set s ≡ true → suc s < up_to L (suc s) set
    higher e =
        cases (leb (up_to L (suc s) set) (suc s))
        (λ f. clash _ (and_i _ _ f e) h)
        (λ f. leb-false _ _ f)

-- and there is no other such layer up to s
pub first_is_lowest : (L : Layers) (set : List ℕ) (s i : ℕ) → i ≤ s → BreaksFirstAt L set i → lowest_broken L set s ≡ i
first_is_lowest L set zero i l B = omega arith
first_is_lowest L set (suc s) i l B =
    cases (eqb i (suc s))
    (λ e.
    let z = eqb-true i (suc s) e in
    let below : holds_up_to L set s ≡ true = holds_of L set s (λ j g. ltb-false j _ (B.none_lower j (omega arith))) in
    rw below (sym z))
    (λ e. rw (holds_not L set s i (omega tests) (ltb-true i _ B.breaks)) (first_is_lowest L set s i (omega tests) B))

-- a layer at which the rule breaks is below the number of the set's pages
pub breaks_below : (L : Layers) (set : List ℕ) (i : ℕ) → breaks_at L set i ≡ true → i < length set
breaks_below L set i b = let more = ltb-true i _ b in omega (arith, count_length (λ q. leb (L.of q) i) set)
