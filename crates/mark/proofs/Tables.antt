-- What is known of a table that holds its used rows in front and unused places behind them, with t0 beside it.
use Prim.Native.Nat.{ℕ, zero, suc, ◌+◌, ◌-◌, ◌≤◌, ◌<◌, max}
use native.Mathlib.Omega.{arith}
use mathlib.Core.Bool.{Bool, true, false, not}
use mathlib.Core.List.{List, [], ◌∷◌, ◌++◌, map}
use mathlib.Core.Path.{◌≡◌, refl, sym, ap, ◌∙◌}
use lib.Dec.{eqb, ltb}
use lib.ListN.{length, take, drop, get_or, replicate, length-append, length-replicate}
use lib.Seq.{take_at, drop_at}
use borrow.Author.Tests.{eqb-true, ne_eqb, leb-true, ltb-true}
use Rattle.lists.specs.Pages.{count, distinct}
use Rattle.lists.specs.Places.{place}
use Rattle.lists.specs.Sorting.{Row}
use Rattle.lists.proofs.Choice.{tests, cases, split, same_test, and_l, and_r, or_split, bit_true, bit_false, eqb_sym}
use Rattle.lists.proofs.Pages.{count_ext, once_distinct}
use Rattle.paging.specs.Rows.{rows_of, numbers_of, pages_of, unused, used_rows, table_of}
use Rattle.paging.specs.Table.{number_in, size_of}
use Rattle.paging.proofs.Rows.{pages_length, pages_back, numbers_back}
use Rattle.marking.specs.Rdm.{beside, t0_after, times_after}
use Rattle.mark.specs.Formed.{times_formed}

pages_append : (xs ys : List Row) → pages_of (xs ++ ys) ≡ pages_of xs ++ pages_of ys
pages_append [] ys = refl
pages_append (x ∷ xs) ys = ap (λ rest. x.page ∷ rest) (pages_append xs ys)

count_pages : (f : ℕ → Bool) (rows : List Row) → count f (pages_of rows) ≡ count (λ row. f row.page) rows
count_pages f [] = refl
count_pages f (x ∷ xs) = omega (arith, count_pages f xs)

-- no page has two rows
pub rows_distinct : (rows : List Row) → ((q : ℕ) → count (λ row. eqb row.page q) rows ≤ 1) → distinct (pages_of rows) ≡ true
rows_distinct rows once =
    once_distinct (pages_of rows)
    (λ q. omega (arith, once q, count_pages (eqb q) rows, count_ext (λ row. eqb q row.page) (λ row. eqb row.page q) rows (λ row. eqb_sym q row.page)))

-- a page has a row exactly if its number is above 0
pub number_place : (rows : List Row) (p : ℕ) → size_of 0 rows ≡ 0 → eqb (number_in rows p) 0 ≡ not (ltb (place p (pages_of rows)) (length rows))
number_place [] p z = refl
number_place (x ∷ xs) p z =
    let up : eqb x.number 0 ≡ false = cases (eqb x.number 0) (λ e. absurd (omega (arith, bit_true _ e))) (λ e. e) in
    let rest = number_place xs p (omega (arith, z, bit_false _ up)) in
    cases (eqb p x.page)
    (λ e. let same : eqb x.page p ≡ true = eqb_sym x.page p ∙ e in
    let high : 0 < x.number = omega tests in
    let all : ltb 0 (suc (length xs)) ≡ true = omega tests in
    let some : eqb (max x.number (number_in xs p)) 0 ≡ false =
    ne_eqb (max x.number (number_in xs p)) 0 (λ h. omega arith) in
    rw (e, same, all) some)
    (λ e. let other : eqb x.page p ≡ false = eqb_sym x.page p ∙ e in
    let least : max 0 (number_in xs p) ≡ number_in xs p = omega arith in
    let one : ltb (suc (place p (pages_of xs))) (suc (length xs)) ≡ ltb (place p (pages_of xs)) (length xs) =
    same_test _ _ (λ h. omega tests) (λ h. omega tests) in
    rw (e, other, least, one) rest)

-- The first `used` places of the two lists

module _ (ns ps : List ℕ) (used : ℕ) (even : length ps ≡ length ns) (shape : rows_of ns ps ≡ table_of (length ps) (used_rows (rows_of ns ps)))
    (counted : used ≡ length (used_rows (rows_of ns ps))) where
  pub used_front : take used (rows_of ns ps) ≡ used_rows (rows_of ns ps)
  used_front = ap (take used) shape ∙ take_at (used_rows (rows_of ns ps)) _ used (sym counted)

  pub used_behind : drop used (rows_of ns ps) ≡ replicate (length ps - used) unused
  used_behind =
      ap (drop used) shape ∙ drop_at (used_rows (rows_of ns ps)) _ used (sym counted) ∙ ap (λ (n : ℕ). replicate (length ps - n) unused) (sym counted)

  pub used_pages : take used ps ≡ pages_of (used_rows (rows_of ns ps))
  used_pages =
      let rows = used_rows (rows_of ns ps) in
      ap (take used) (sym (pages_back ns ps even) ∙ ap pages_of shape ∙ pages_append rows (replicate (length ps - length rows) unused))
      ∙ take_at (pages_of rows) _ used (pages_length rows ∙ sym counted)

-- t0 beside the rows: what stands behind them does not matter

blank_get : (i used m : ℕ) (ts : List ℕ) → used ≤ i → drop used ts ≡ replicate m 0 → get_or ts i 0 ≡ 0
blank_get i zero m ts h e = rw e (zeros i m)
  where
    zeros : (j n : ℕ) → ◌≡◌ {A = ℕ} (get_or (replicate n 0) j 0) 0
    zeros j zero = refl
    zeros zero (suc n) = refl
    zeros (suc j) (suc n) = zeros j n
blank_get i (suc used) m [] h e = refl
blank_get zero (suc used) m (t ∷ ts) h e = absurd (omega arith)
blank_get (suc i) (suc used) m (t ∷ ts) h e = blank_get i used m ts (omega arith) e

take_get : (i used : ℕ) (ts : List ℕ) → i < used → get_or (take used ts) i 0 ≡ get_or ts i 0
take_get i zero ts h = absurd (omega arith)
take_get i (suc used) [] h = refl
take_get zero (suc used) (t ∷ ts) h = refl
take_get (suc i) (suc used) (t ∷ ts) h = take_get i used ts (omega arith)

take_past : (i used : ℕ) (ts : List ℕ) → used ≤ i → get_or (take used ts) i 0 ≡ 0
take_past i zero ts h = refl
take_past i (suc used) [] h = refl
take_past zero (suc used) (t ∷ ts) h = absurd (omega arith)
take_past (suc i) (suc used) (t ∷ ts) h = take_past i used ts (omega arith)

pub beside_take : (ps ts : List ℕ) (used m : ℕ) (q : ℕ) → drop used ts ≡ replicate m 0 → beside ps (take used ts) q ≡ beside ps ts q
beside_take ps ts used m q e =
    cases (ltb (place q ps) used)
    (λ h. take_get (place q ps) used ts (let l = h in omega tests))
    (λ h. let past : used ≤ place q ps = omega tests in take_past (place q ps) used ts past ∙ sym (blank_get (place q ps) used m ts past e))

pub times_take : (t p : ℕ) (rows after : List Row) (ts : List ℕ) (used m : ℕ) → drop used ts ≡ replicate m 0
    → times_after t p rows after (take used ts) ≡ times_after t p rows after ts
times_take t p rows after ts used m e = same (pages_of after)
  where
    same : (qs : List ℕ) → map (t0_after t p rows (take used ts)) qs ≡ map (t0_after t p rows ts) qs
    same [] = refl
    same (q ∷ qs) = rw (beside_take (pages_of rows) ts used m q e, same qs) refl

-- What the tests of t0 tell

pub times_low : (t : ℕ) (ns ts : List ℕ) → length ts ≡ length ns → times_formed t ns ts ≡ true → (i : ℕ) → get_or ts i 0 ≤ t
times_low t [] [] e w i = omega arith
times_low t [] (x ∷ ts) e w i = absurd (omega arith)
times_low t (n ∷ ns) [] e w i = omega arith
times_low t (n ∷ ns) (x ∷ ts) e w zero = leb-true _ _ (and_l _ _ w)
times_low t (n ∷ ns) (x ∷ ts) e w (suc i) = times_low t ns ts (omega arith) (and_r _ _ (and_r _ _ w)) i

times_behind : (t : ℕ) (ns : List ℕ) (m : ℕ) (ts : List ℕ) → length ts ≡ length ns + m → times_formed t (ns ++ replicate m 0) ts ≡ true
    → drop (length ns) ts ≡ replicate m 0
times_behind t [] zero [] e w = refl
times_behind t [] zero (x ∷ ts) e w = absurd (omega arith)
times_behind t [] (suc m) [] e w = absurd (omega arith)
times_behind t [] (suc m) (x ∷ ts) e w =
    let here : x ≡ 0 = split (or_split _ _ (and_l _ _ (and_r _ _ w))) (λ h. absurd (omega (arith, ltb-true 0 0 h))) (λ h. eqb-true x 0 h) in
    rw here (ap (λ (l : List ℕ). 0 ∷ l) (times_behind t [] m ts (omega arith) (and_r _ _ (and_r _ _ w))))
times_behind t (n ∷ ns) m [] e w = absurd (omega arith)
times_behind t (n ∷ ns) m (x ∷ ts) e w = times_behind t ns m ts (omega arith) (and_r _ _ (and_r _ _ w))

numbers_append : (xs ys : List Row) → numbers_of (xs ++ ys) ≡ numbers_of xs ++ numbers_of ys
numbers_append [] ys = refl
numbers_append (x ∷ xs) ys = ap (λ rest. x.number ∷ rest) (numbers_append xs ys)

pub numbers_length : (rows : List Row) → length (numbers_of rows) ≡ length rows
numbers_length [] = refl
numbers_length (x ∷ xs) = ap suc (numbers_length xs)

unused_numbers : (m : ℕ) → numbers_of (replicate m unused) ≡ replicate m 0
unused_numbers zero = refl
unused_numbers (suc m) = ap (λ (l : List ℕ). 0 ∷ l) (unused_numbers m)

place_behind : (rows : List Row) (m : ℕ) → size_of 0 rows ≡ 0 → place 0 (numbers_of rows ++ replicate m 0) ≡ length rows
place_behind [] zero z = refl
place_behind [] (suc m) z = refl
place_behind (x ∷ xs) m z =
    let up : eqb x.number 0 ≡ false = cases (eqb x.number 0) (λ e. absurd (omega (arith, bit_true _ e))) (λ e. e) in
    let up' : eqb 0 x.number ≡ false = eqb_sym 0 x.number ∙ up in
    rw up' (ap suc (place_behind xs m (omega (arith, z, bit_false _ up))))

module _ (ns ps : List ℕ) (even : length ps ≡ length ns) (shape : rows_of ns ps ≡ table_of (length ps) (used_rows (rows_of ns ps)))
    (above : size_of 0 (used_rows (rows_of ns ps)) ≡ 0) where
  numbers_shape : ns ≡ numbers_of (used_rows (rows_of ns ps)) ++ replicate (length ps - length (used_rows (rows_of ns ps))) 0
  numbers_shape =
      let rows = used_rows (rows_of ns ps) in
      sym (numbers_back ns ps even) ∙ ap numbers_of shape ∙ numbers_append rows (replicate (length ps - length rows) unused)
      ∙ ap (λ (l : List ℕ). numbers_of rows ++ l) (unused_numbers (length ps - length rows))

  -- the first unused place
  pub first_unused : place 0 ns ≡ length (used_rows (rows_of ns ps))
  first_unused =
      let rows = used_rows (rows_of ns ps) in ap (place 0) numbers_shape ∙ place_behind rows (length ps - length rows) above

  pub used_fit : length (used_rows (rows_of ns ps)) ≤ length ps
  used_fit =
      let rows = used_rows (rows_of ns ps) in
      omega (
        arith,
        even,
        ap (λ (l : List ℕ). length l) numbers_shape,
        length-append (numbers_of rows) (replicate (length ps - length rows) 0),
        length-replicate {A = ℕ} (length ps - length rows) 0,
        numbers_length rows,
      )

  pub times_blank : (t : ℕ) (ts : List ℕ) → length ts ≡ length ps → times_formed t ns ts ≡ true
      → drop (length (used_rows (rows_of ns ps))) ts ≡ replicate (length ps - length (used_rows (rows_of ns ps))) 0
  times_blank t ts e w =
      let rows = used_rows (rows_of ns ps) in
      let fits = used_fit in
      rw (← numbers_length rows)
      (times_behind t (numbers_of rows) (length ps - length (numbers_of rows)) ts (omega (arith, e, numbers_length rows, fits))
      (rw (numbers_length rows, ← numbers_shape) w))
