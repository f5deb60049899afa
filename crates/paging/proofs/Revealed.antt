-- The revealed layers: what their number says, and that their rows stand last in a table's order.
use Prim.Native.Nat.{ℕ, zero, suc, ◌+◌, ◌-◌, ◌≤◌, ◌<◌}
use native.Mathlib.Omega.{arith}
use mathlib.Core.Bool.{true, not}
use mathlib.Core.List.{List, [], ◌∷◌}
use mathlib.Core.Path.{◌≡◌, refl, ap, ◌∙◌}
use lib.Dec.{eqb, leb, ltb}
use lib.ListN.{length, drop}
use borrow.Author.Tests.{eqb-true, leb-true, ltb-true, eq-eqb, ne_eqb, le-leb, lt-ltb}
use Rattle.lists.specs.Choice.{◌and◌}
use Rattle.lists.specs.Pages.{count, filter}
use Rattle.lists.specs.Places.{place}
use Rattle.lists.specs.Sorting.{Row, row_before, Least, Sorted}
use Rattle.lists.proofs.Choice.{tests, cases, split, and_l, and_r, and_i, same_test, bit_true, bit_false, eqb_sym}
use Rattle.lists.proofs.Pages.{count_mono}
use Rattle.lists.proofs.Sorting.{row_not_before}
use Rattle.paging.specs.Rows.{pages_of}
use Rattle.paging.specs.Table.{number_in, size_of, revealed}
use Rattle.paging.proofs.Forming.{own_row}

-- The number of revealed layers

-- the last r layers up to s are single, and the one below them is not, unless it is L0
pub record TopSingles (s r : ℕ) (rows : List Row) : Type 0 where
  pub most : r ≤ s
  pub single : (j : ℕ) → s - r < j → j ≤ s → size_of j rows ≡ 1
  pub ends : 0 < s - r → size_of (s - r) rows ≡ 1 → ⊥

-- this holds of the number of revealed layers, and of no other number
pub revealed_singles : (s : ℕ) (rows : List Row) → TopSingles s (revealed s rows) rows
revealed_singles zero rows = record { most = omega arith; single = λ j h g. absurd (omega arith); ends = λ h. absurd (omega arith) }
revealed_singles (suc s) rows =
    cases (eqb (size_of (suc s) rows) 1)
    (λ e. let rest = revealed_singles s rows in
    let less : suc s - suc (revealed s rows) ≡ s - revealed s rows = omega arith in
    rw e (record {
      most = omega (arith, rest.most);
      single = λ j h g. cases (eqb j (suc s)) (λ t. rw (eqb-true j (suc s) t) (eqb-true _ _ e)) (λ t. rest.single j (omega arith) (omega tests));
      ends = λ h t. rest.ends (omega arith) (rw less at t);
    }))
    (λ e. let same : suc s - 0 ≡ suc s = omega arith in
    rw e (record {
      most = omega arith;
      single = λ j h g. absurd (omega arith);
      ends = λ h t. let one : size_of (suc s) rows ≡ 1 = rw same at t in omega tests;
    }))

pub singles_revealed : (s r : ℕ) (rows : List Row) → TopSingles s r rows → revealed s rows ≡ r
singles_revealed zero r rows T = omega (arith, T.most)
singles_revealed (suc s) zero rows T =
    let same : suc s - 0 ≡ suc s = omega arith in
    rw (ne_eqb (size_of (suc s) rows) 1 (λ t. T.ends (omega arith) (rw same t)))
singles_revealed (suc s) (suc r) rows T =
    let less : suc s - suc r ≡ s - r = omega arith in
    rw (eq-eqb (size_of (suc s) rows) 1 (T.single (suc s) (omega arith) (omega arith)))
    (ap suc (singles_revealed s r rows (record {
      most = omega (arith, T.most);
      single = λ j h g. T.single j (omega arith) (omega arith);
      ends = λ h t. T.ends (omega arith) (rw less t);
    })))

-- The rows above a number are the last ones

high_rest : (t : ℕ) (x : Row) (ys : List Row) → t < x.number → Least row_before x ys
    → (filter (λ row. ltb t row.number) ys ≡ ys) × (count (λ row. not (ltb t row.number)) ys ≡ 0)
high_rest t x [] h l = (refl, refl)
high_rest t x (y ∷ ys) h l =
    let up : ltb t y.number ≡ true = split (row_not_before y x l.0) (λ g. omega tests) (λ g. let e = g.0 in omega tests) in
    let rest = high_rest t x ys h l.1 in
    (rw up (ap (λ zs. y ∷ zs) rest.0), rw up (omega (arith, rest.1)))

pub high_last : (t : ℕ) (rows : List Row) → Sorted row_before rows
    → filter (λ row. ltb t row.number) rows ≡ drop (count (λ row. not (ltb t row.number)) rows) rows
high_last t [] s = refl
high_last t (x ∷ xs) s =
    cases (ltb t x.number)
    (λ e. let h : t < x.number = omega tests in
    let rest = high_rest t x xs h s.0 in
    let none : 0 + count (λ row. not (ltb t row.number)) xs ≡ 0 = omega (arith, rest.1) in
    rw (e, none) (ap (λ zs. x ∷ zs) rest.0))
    (λ e. let one : 1 + count (λ row. not (ltb t row.number)) xs ≡ suc (count (λ row. not (ltb t row.number)) xs) = omega arith in
    rw (e, one) (high_last t xs s.1))

absent_number : (p : ℕ) (rows : List Row) → count (λ row. eqb row.page p) rows ≡ 0 → number_in rows p ≡ 0
absent_number p rows z =
    cases (eqb (number_in rows p) 0)
    (λ e. eqb-true _ _ e)
    (λ e. absurd (omega (
      arith,
      own_row p (number_in rows p) rows refl (omega tests),
      count_mono (λ row. eqb row.number (number_in rows p) and eqb row.page p) (λ row. eqb row.page p) rows (λ row t. and_r _ _ t),
    )))

-- a page is above a number where its place is one of those, if it has one row at most
abbrev HighAt : (t low at size number : ℕ) → Type 0
HighAt t low at size number = (t < number → (low ≤ at) × (at < size)) × (low ≤ at → at < size → t < number)

high_at : (t p : ℕ) (rows : List Row) → Sorted row_before rows → count (λ row. eqb row.page p) rows ≤ 1
    → HighAt t (count (λ row. not (ltb t row.number)) rows) (place p (pages_of rows)) (length rows) (number_in rows p)
high_at t p [] s o = (λ h. absurd (omega arith), λ h g. absurd (omega arith))
high_at t p (x ∷ xs) s o =
    let rest = high_at t p xs s.1 (omega arith) in
    cases (ltb t x.number)
    (λ h. let none = (high_rest t x xs (ltb-true _ _ h) s.0).1 in
    cases (eqb x.page p)
    (λ e. rw (h, e, eqb_sym p x.page ∙ e) (λ g. (omega arith, omega arith), λ g l. omega tests))
    (λ e. rw (h, e, eqb_sym p x.page ∙ e) (λ g. let r = rest.0 (omega arith) in (omega arith, omega arith), λ g l. let r = rest.1 (omega arith) (omega arith) in omega arith)))
    (λ h. cases (eqb x.page p)
    (λ e. let gone = absent_number p xs (omega (arith, bit_true (eqb x.page p) e)) in
    rw (h, e, eqb_sym p x.page ∙ e) (λ g. absurd (omega tests), λ g l. absurd (omega arith)))
    (λ e. rw (h, e, eqb_sym p x.page ∙ e)
    (λ g. let r = rest.0 (omega arith) in (omega arith, omega arith), λ g l. let r = rest.1 (omega arith) (omega arith) in omega arith)))

pub high_place : (t p : ℕ) (rows : List Row) → Sorted row_before rows → count (λ row. eqb row.page p) rows ≤ 1
    → ltb t (number_in rows p) ≡ (leb (count (λ row. not (ltb t row.number)) rows) (place p (pages_of rows)) and ltb (place p (pages_of rows)) (length rows))
high_place t p rows s o =
    let all = high_at t p rows s o in
    same_test _ _
    (λ e. let r = all.0 (ltb-true _ _ e) in and_i _ _ (le-leb _ _ r.0) (lt-ltb _ _ r.1))
    (λ e. lt-ltb _ _ (all.1 (leb-true _ _ (and_l _ _ e)) (ltb-true _ _ (and_r _ _ e))))

-- how many rows are above a number
abbrev pub rows_above : ℕ → List Row → ℕ
rows_above t rows = count (λ row. ltb t row.number) rows

above_split : (i : ℕ) (rows : List Row) → rows_above i rows ≡ size_of (suc i) rows + rows_above (suc i) rows
above_split i [] = refl
above_split i (x ∷ xs) =
    let rest = above_split i xs in
    cases (eqb x.number (suc i))
    (λ e. let n = eqb-true x.number (suc i) e in
    omega (arith, bit_true (ltb i x.number) (omega tests), bit_false (ltb (suc i) x.number) (omega tests), bit_true (eqb x.number (suc i)) e))
    (λ e. cases (ltb (suc i) x.number)
    (λ f. omega (arith, bit_true (ltb i x.number) (omega tests), bit_true (ltb (suc i) x.number) f, bit_false (eqb x.number (suc i)) e))
    (λ f. omega (arith, bit_false (ltb i x.number) (omega tests), bit_false (ltb (suc i) x.number) f, bit_false (eqb x.number (suc i)) e)))

-- the revealed layers have a row each
pub above_revealed : (i : ℕ) (rows : List Row) → rows_above (i - revealed i rows) rows ≡ revealed i rows + rows_above i rows
above_revealed zero rows = omega arith
above_revealed (suc i) rows =
    cases (eqb (size_of (suc i) rows) 1)
    (λ e. let less : suc i - suc (revealed i rows) ≡ i - revealed i rows = omega arith in
    rw (e, less) (omega (arith, above_revealed i rows, above_split i rows, eqb-true (size_of (suc i) rows) 1 e)))
    (λ e. let same : suc i - 0 ≡ suc i = omega arith in rw (e, same) (omega arith))
