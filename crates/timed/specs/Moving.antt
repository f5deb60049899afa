-- What the inner functions do to the three lists.
use Rattle.std.specs.Prelude.{ℕ, suc, ◌-◌, ◌<◌, List, ◌∷◌, ◌++◌, map, ◌≡◌, leb, ltb, length, take, drop, get_or}
use Rattle.lists.specs.Choice.{pick}
use Rattle.lists.specs.Sorting.{sort_by}
use Rattle.paging.specs.Rows.{rows_of}
use Rattle.table.specs.Filling.{PlaceAsked, sunk, sunk_all}

-- whatever function of their pages the first n times were, they still are
abbrev pub Follows : (n : ℕ) → (pages times pages' times' : List ℕ) → Type 0
Follows n pages times pages' times' = (f : ℕ → ℕ) → take n times ≡ map f (take n pages) → take n times' ≡ map f (take n pages')

-- the first rows are in order, and each has a time
pub record TimesAsked (end : ℕ) (numbers pages times : List ℕ) : Type 0 where
  pub rows : PlaceAsked end numbers pages
  pub beside : length times ≡ length pages

-- the row at `at` lowered and put among those before it, its time with it
pub record SunkTimed (at floor : ℕ) (numbers pages times numbers' pages' times' : List ℕ) : Type 0 where
  pub rows : rows_of numbers' pages' ≡ sunk at floor (rows_of numbers pages)
  pub follows : (n : ℕ) → at < n → Follows n pages times pages' times'
  pub behind : (n : ℕ) → at < n → drop n times' ≡ drop n times

-- the first rows lowered and in order again, their times with them
pub record SunkAllTimed (used floor : ℕ) (numbers pages times numbers' pages' times' : List ℕ) : Type 0 where
  pub rows : rows_of numbers' pages' ≡ sunk_all used floor (rows_of numbers pages)
  pub follows : Follows used pages times pages' times'
  pub behind : drop used times' ≡ drop used times

-- the same, where the times are a function of their pages
pub record SunkTogether (used floor : ℕ) (numbers pages times numbers' pages' times' : List ℕ) : Type 0 where
  pub told : (f : ℕ → ℕ) → take used times ≡ map f (take used pages)
      → (rows_of numbers' pages' ≡ sunk_all used floor (rows_of numbers pages)) × (take used times' ≡ map f (take used pages')) × (drop used times' ≡ drop used times)

-- the first entries without the one at `at`
abbrev pub others {ℓ} : {A : Type ℓ} → (at used : ℕ) → List A → List A
others at used list = take at list ++ take (used - suc at) (drop (suc at) list)

-- the entry at `at` behind the others of the first ones
abbrev pub made_last : (at used : ℕ) → List ℕ → List ℕ
made_last at used list = others at used list ++ (get_or list at 0 ∷ drop used list)

-- a number after 1c for a page of number i
abbrev pub less_from : (i n : ℕ) → ℕ
less_from i n = pick (leb i n) (n - 1) n

-- the row at `at` behind the others of the first rows, with the number s; the others have their numbers after 1c
pub record TakenOut (at used i s : ℕ) (numbers pages times numbers' pages' times' : List ℕ) : Type 0 where
  pub numbers_told : numbers' ≡ map (less_from i) (others at used numbers) ++ (s ∷ drop used numbers)
  pub pages_told : pages' ≡ made_last at used pages
  pub times_told : times' ≡ made_last at used times

-- the entries between two places exchanged for others
abbrev pub between {ℓ} : {A : Type ℓ} → (from to : ℕ) → (part list : List A) → List A
between from to part list = take from list ++ (part ++ drop (to - from) (drop from list))

-- the pages between two places sorted; the times there, if they were a function of their pages, still are
pub record SortedBeside (from to : ℕ) (pages times pages' times' : List ℕ) : Type 0 where
  pub told : (f : ℕ → ℕ) → take (to - from) (drop from times) ≡ map f (take (to - from) (drop from pages))
      → (pages' ≡ between from to (sort_by ltb (take (to - from) (drop from pages))) pages)
      × (times' ≡ between from to (map f (sort_by ltb (take (to - from) (drop from pages)))) times)
