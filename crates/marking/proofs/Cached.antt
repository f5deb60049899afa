-- Cached pages: the order in which they leave is an order; a hit and the clearing of marks change no page, and no number of pages.
use Prim.Native.Nat.{ℕ}
use mathlib.Core.Bool.{Bool, true, false}
use mathlib.Core.List.{List, [], ◌∷◌, map}
use mathlib.Core.Path.{◌≡◌, refl, sym, ap}
use lib.Dec.{eqb, ltb}
use lib.ListN.{length, length-map}
use borrow.Author.Tests.{eqb-true}
use Rattle.lists.specs.Choice.{pick}
use Rattle.lists.proofs.Choice.{tests, cases}
use Rattle.lists.proofs.Sorting.{Order, by_then, order_then, rising_order, rising_ties}
use Rattle.marking.specs.Marking.{Cached, cached_at, pages_in, sooner, by_page, cleared}

-- by mark, then by priority, then by page
pub sooner_order : Order sooner
unfolding sooner
sooner_order =
    order_then ltb (λ (x : Cached). x.mark) (by_then ltb (λ (x : Cached). x.priority) by_page) rising_order rising_ties
    (order_then ltb (λ (x : Cached). x.priority) by_page rising_order rising_ties
    (record { one_way = λ x y e. omega tests; onward = λ x y z e f. omega tests }))

pub hit_pages : (p n : ℕ) (xs : List Cached) → pages_in (map (λ x. pick (eqb x.page p) (cached_at p 1 n) x) xs) ≡ pages_in xs
hit_pages p n [] = refl
hit_pages p n (x ∷ xs) =
    cases (eqb x.page p)
    (λ e. rw (e, hit_pages p n xs) (ap (λ (q : ℕ). q ∷ pages_in xs) (sym (eqb-true _ _ e))))
    (λ e. rw (e, hit_pages p n xs))

pub cleared_pages : (joins : Bool) (xs : List Cached) → pages_in (cleared joins xs) ≡ pages_in xs
cleared_pages false xs = refl
cleared_pages true [] = refl
cleared_pages true (x ∷ xs) = ap (λ (l : List ℕ). x.page ∷ l) (cleared_pages true xs)

pub cleared_length : (joins : Bool) (xs : List Cached) → length (cleared joins xs) ≡ length xs
cleared_length false xs = refl
cleared_length true xs = length-map xs (λ x. cached_at x.page 0 x.priority)
