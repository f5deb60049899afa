-- Laws of the table's two lists as rows: lengths, entries, stores, parts, and the lists back from the rows.
use Prim.Native.Nat.{ℕ, zero, suc}
use native.Mathlib.Omega.{arith}
use mathlib.Core.List.{List, [], ◌∷◌, ◌++◌}
use mathlib.Core.Path.{◌≡◌, refl, ap}
use lib.ListN.{length, take, drop, get_or, set}
use Rattle.lists.specs.Sorting.{Row}
use Rattle.paging.specs.Rows.{row_at, rows_of, numbers_of, pages_of, unused}

pub rows_length : (ns ps : List ℕ) → length ps ≡ length ns → length (rows_of ns ps) ≡ length ps
rows_length [] [] e = refl
rows_length [] (p ∷ ps) e = absurd (omega arith)
rows_length (n ∷ ns) [] e = refl
rows_length (n ∷ ns) (p ∷ ps) e = ap suc (rows_length ns ps (omega arith))

pub pages_length : (rows : List Row) → length (pages_of rows) ≡ length rows
pages_length [] = refl
pages_length (row ∷ rows) = ap suc (pages_length rows)

pub rows_get : (ns ps : List ℕ) (i : ℕ) → length ps ≡ length ns → get_or (rows_of ns ps) i unused ≡ row_at (get_or ns i 0) (get_or ps i 0)
rows_get [] [] i e = refl
rows_get [] (p ∷ ps) i e = absurd (omega arith)
rows_get (n ∷ ns) [] i e = absurd (omega arith)
rows_get (n ∷ ns) (p ∷ ps) zero e = refl
rows_get (n ∷ ns) (p ∷ ps) (suc i) e = rows_get ns ps i (omega arith)

-- storing at one place of both lists is storing a row
pub rows_set : (ns ps : List ℕ) (i n p : ℕ) → rows_of (set ns i n) (set ps i p) ≡ set (rows_of ns ps) i (row_at n p)
rows_set [] ps i n p = refl
rows_set (m ∷ ns) [] zero n p = refl
rows_set (m ∷ ns) [] (suc i) n p = refl
rows_set (m ∷ ns) (q ∷ ps) zero n p = refl
rows_set (m ∷ ns) (q ∷ ps) (suc i) n p = ap (λ rows. row_at m q ∷ rows) (rows_set ns ps i n p)

pub rows_take : (ns ps : List ℕ) (i : ℕ) → rows_of (take i ns) (take i ps) ≡ take i (rows_of ns ps)
rows_take ns ps zero = refl
rows_take [] ps (suc i) = refl
rows_take (n ∷ ns) [] (suc i) = refl
rows_take (n ∷ ns) (p ∷ ps) (suc i) = ap (λ rows. row_at n p ∷ rows) (rows_take ns ps i)

pub rows_drop : (ns ps : List ℕ) (i : ℕ) → length ps ≡ length ns → rows_of (drop i ns) (drop i ps) ≡ drop i (rows_of ns ps)
rows_drop ns ps zero e = refl
rows_drop [] ps (suc i) e = refl
rows_drop (n ∷ ns) [] (suc i) e = absurd (omega arith)
rows_drop (n ∷ ns) (p ∷ ps) (suc i) e = rows_drop ns ps i (omega arith)

pub rows_append : (ns ms ps qs : List ℕ) → length ps ≡ length ns → rows_of (ns ++ ms) (ps ++ qs) ≡ rows_of ns ps ++ rows_of ms qs
rows_append [] ms [] qs e = refl
rows_append [] ms (p ∷ ps) qs e = absurd (omega arith)
rows_append (n ∷ ns) ms [] qs e = absurd (omega arith)
rows_append (n ∷ ns) ms (p ∷ ps) qs e = ap (λ rows. row_at n p ∷ rows) (rows_append ns ms ps qs (omega arith))

-- the lists back from their rows
pub numbers_back : (ns ps : List ℕ) → length ps ≡ length ns → numbers_of (rows_of ns ps) ≡ ns
numbers_back [] ps e = refl
numbers_back (n ∷ ns) [] e = absurd (omega arith)
numbers_back (n ∷ ns) (p ∷ ps) e = ap (λ ms. n ∷ ms) (numbers_back ns ps (omega arith))

pub pages_back : (ns ps : List ℕ) → length ps ≡ length ns → pages_of (rows_of ns ps) ≡ ps
pages_back [] [] e = refl
pages_back [] (p ∷ ps) e = absurd (omega arith)
pages_back (n ∷ ns) [] e = absurd (omega arith)
pages_back (n ∷ ns) (p ∷ ps) e = ap (λ qs. p ∷ qs) (pages_back ns ps (omega arith))

-- the rows back from their lists
pub rows_back : (rows : List Row) → rows_of (numbers_of rows) (pages_of rows) ≡ rows
rows_back [] = refl
rows_back (row ∷ rows) = ap (λ rest. row ∷ rest) (rows_back rows)
