-- Lists in which the pages that pass a test stand behind the others: what a policy that evicts from the front of its list has of its
-- protected pages.
use Prim.Native.Nat.{ℕ, zero, suc}
use mathlib.Core.Bool.{Bool, true, false}
use mathlib.Core.List.{List, [], ◌∷◌, ◌++◌}
use mathlib.Core.Path.{◌≡◌, refl}
use lib.Dec.{eqb}
use lib.ListN.{take, drop}
use borrow.Author.Tests.{eqb-true}
use Rattle.lists.specs.Pages.{mem, without}
use Rattle.lists.proofs.Choice.{cases, split, clash, or_r, or_split, and_i}
use Rattle.lists.proofs.Pages.{mem_here, mem_there, mem_without, mem_snoc_split, erase_first}
use Rattle.paging.specs.Schedule.{held_in_turn}

-- behind a page that passes stand only pages that pass
abbrev pub Trailing : (ℕ → Bool) → List ℕ → Type 0
Trailing g [] = Unit {0}
Trailing g (q ∷ qs) = (g q ≡ true → (r : ℕ) → mem r qs ≡ true → g r ≡ true) × Trailing g qs

pub trailing_without : (g : ℕ → Bool) (p : ℕ) (xs : List ℕ) → Trailing g xs → Trailing g (without p xs)
trailing_without g p [] t = tt
trailing_without g p (x ∷ xs) t =
    cases (eqb p x)
    (λ e. rw e (trailing_without g p xs t.1))
    (λ e. rw e (λ h r i. t.0 h r (mem_without r p xs i), trailing_without g p xs t.1))

pub trailing_drop : (g : ℕ → Bool) (n : ℕ) (xs : List ℕ) → Trailing g xs → Trailing g (drop n xs)
trailing_drop g zero xs t = t
trailing_drop g (suc n) [] t = tt
trailing_drop g (suc n) (x ∷ xs) t = trailing_drop g n xs t.1

-- p goes last and passes from now on
pub trailing_snoc : (g g' : ℕ → Bool) (p : ℕ) (xs : List ℕ) → ((q : ℕ) → mem q xs ≡ true → g' q ≡ true → g q ≡ true)
    → ((q : ℕ) → g q ≡ true → g' q ≡ true) → g' p ≡ true → Trailing g xs → Trailing g' (xs ++ (p ∷ []))
trailing_snoc g g' p [] back on e t = (λ h r i. clash false i refl, tt)
trailing_snoc g g' p (x ∷ xs) back on e t = (
  (λ h r i. split (mem_snoc_split r p xs i) (λ j. on r (t.0 (back x (mem_here x xs) h) r j)) (λ j. rw j e)),
  trailing_snoc g g' p xs (λ q i. back q (mem_there q x xs i)) on e t.1,
)

-- where one of the first n passes, all behind them pass
pub trailing_take : (g : ℕ → Bool) (n : ℕ) (xs : List ℕ) → Trailing g xs → (q : ℕ) → mem q (take n xs) ≡ true → g q ≡ true → (r : ℕ)
    → mem r (drop n xs) ≡ true → g r ≡ true
trailing_take g zero xs t q i h r j = clash false i refl
trailing_take g (suc n) [] t q i h r j = clash false i refl
trailing_take g (suc n) (x ∷ xs) t q i h r j =
    split (or_split _ _ i)
    (λ e. t.0 (rw (eqb-true q x e) at h) r (behind n xs j))
    (λ k. trailing_take g n xs t.1 q k h r j)
  where
    behind : (m : ℕ) (ys : List ℕ) → mem r (drop m ys) ≡ true → mem r ys ≡ true
    behind zero ys e = e
    behind (suc m) [] e = e
    behind (suc m) (y ∷ ys) e = or_r _ _ (behind m ys e)

-- the first n are held, each in its turn
pub take_held : (n : ℕ) (xs : List ℕ) → held_in_turn (take n xs) xs ≡ true
take_held zero xs = refl
take_held (suc n) [] = refl
take_held (suc n) (x ∷ xs) = and_i _ _ (mem_here x xs) (rw (erase_first x xs) (take_held n xs))
