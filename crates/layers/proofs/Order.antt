-- The order of a table's used rows: they are sorted, and those of the revealed layers come last.
use Prim.Native.Nat.{ℕ, ◌-◌}
use native.Mathlib.Omega.{arith}
use mathlib.Core.Bool.{true, false, not}
use mathlib.Core.List.{List, [], ◌∷◌}
use mathlib.Core.Path.{◌≡◌, sym, ap, ◌∙◌}
use lib.Dec.{ltb}
use lib.ListN.{length, drop}
use borrow.Author.Tests.{eqb-true}
use Rattle.lists.specs.Pages.{count}
use Rattle.lists.specs.Sorting.{Row, row_before, Least, Sorted}
use Rattle.lists.proofs.Choice.{tests, split, and_l, and_r, or_split}
use Rattle.lists.proofs.Pages.{count_not}
use Rattle.lists.proofs.Sorting.{least_onward, row_split, row_order}
use Rattle.paging.specs.Rows.{used_rows}
use Rattle.paging.specs.Table.{above_zero, revealed}
use Rattle.paging.proofs.Revealed.{high_last, rows_above, above_revealed}
use Rattle.layers.specs.Formed.{is_unused, follows, ordered, ordered_behind, none_above}
use Rattle.layers.specs.Questions.{top_rows}
use Rattle.layers.proofs.WellFormed.{unused_behind, used_blank}

-- Sorted

none_used : (x : Row) (ys : List Row) → is_unused x ≡ true → ordered_behind x ys ≡ true → used_rows (x ∷ ys) ≡ []
unfolding is_unused
none_used x ys u o =
    let z = and_l _ _ u in
    let low : ltb 0 x.number ≡ false = omega tests in
    rw low (ap used_rows (unused_behind x ys u o) ∙ used_blank (length ys))

sorted_behind : (x : Row) (ys : List Row) → above_zero x ≡ true → ordered_behind x ys ≡ true → Least row_before x (used_rows ys) × Sorted row_before (used_rows ys)
unfolding follows
sorted_behind x [] a o = (tt, tt)
sorted_behind x (y ∷ ys) a o =
    split (or_split _ _ (and_l _ _ o))
    (λ u. rw (none_used y ys u (and_r _ _ o)) (tt, tt))
    (λ f. let b : row_before x y ≡ true = and_r _ _ f in
    let up : ltb 0 y.number ≡ true = split (row_split x y b) (λ h. omega tests) (λ h. let e = h.0 in omega tests) in
    let rest = sorted_behind y ys up (and_r _ _ o) in
    let after : row_before y x ≡ false = row_order.one_way x y b in
    rw up ((after, least_onward row_before row_order x y (used_rows ys) after rest.0), rest))

pub ordered_sorted : (rows : List Row) → ordered rows ≡ true → Sorted row_before (used_rows rows)
ordered_sorted [] o = tt
ordered_sorted (x ∷ xs) o =
    split (or_split _ _ (and_l _ _ o))
    (λ u. rw (none_used x xs u (and_r _ _ o)) tt)
    (λ a. rw a (sorted_behind x xs a (and_r _ _ o)))

-- The rows of the revealed layers are the last so many

pub revealed_last : (s : ℕ) (rows : List Row) → Sorted row_before rows → none_above s rows ≡ true
    → drop (length rows - revealed s rows) rows ≡ top_rows s (revealed s rows) rows
revealed_last s rows o n =
    let none = eqb-true (rows_above s rows) 0 n in
    let all = count_not (λ row. ltb (s - revealed s rows) row.number) rows in
    let low : length rows - revealed s rows ≡ count (λ row. not (ltb (s - revealed s rows) row.number)) rows = omega (arith, above_revealed s rows) in
    rw low (sym (high_last (s - revealed s rows) rows o))
