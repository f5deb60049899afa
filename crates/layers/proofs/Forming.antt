-- A table of rows that are as document 01 asks is well formed, and the used rows of a well-formed table are such rows.
use Prim.Native.Nat.{ℕ, zero, suc, ◌-◌, ◌≤◌, ◌<◌}
use native.Mathlib.Omega.{arith}
use mathlib.Core.Bool.{Bool, true, false}
use mathlib.Core.List.{List, [], ◌∷◌, ◌++◌}
use mathlib.Core.Path.{◌≡◌, refl, sym, ap, ◌∙◌}
use lib.Dec.{eqb, leb, ltb}
use lib.ListN.{length, replicate}
use borrow.Author.Tests.{ltb-true, ltb-false, leb-true, leb-false, lt-ltb, le-leb, eqb-true, eq-eqb}
use Rattle.lists.specs.Choice.{◌and◌, ◌or◌}
use Rattle.lists.specs.Pages.{count, distinct}
use Rattle.lists.specs.Sorting.{Row, row_before, Sorted}
use Rattle.lists.proofs.Choice.{tests, cases, split, clash, and_i, and_l, and_r, or_l, or_r, or_split, bit_true, bit_false, eqb_self, eqb_sym}
use Rattle.lists.proofs.Pages.{count_append, count_ext, distinct_once, once_distinct}
use Rattle.lists.proofs.Sorting.{row_tie}
use Rattle.paging.specs.Rows.{pages_of, unused, used_rows, table_of}
use Rattle.paging.specs.Table.{above_zero, size_of}
use Rattle.paging.proofs.Forming.{FormedRows, used_table}
use Rattle.layers.specs.Formed.{is_unused, follows, ordered_behind, ordered, present, single_above, table_formed}
use Rattle.layers.specs.declared.LayersRun.{LayersRun}
use Rattle.layers.proofs.Order.{ordered_sorted}
use Rattle.layers.proofs.WellFormed.{facts}

count_unused : (f : Row → Bool) (m : ℕ) → f unused ≡ false → count f (replicate m unused) ≡ 0
count_unused f zero e = refl
count_unused f (suc m) e = omega (arith, bit_false (f unused) e, count_unused f m e)

count_table : (f : Row → Bool) (places : ℕ) (rows : List Row) → f unused ≡ false → count f (table_of places rows) ≡ count f rows
count_table f places rows e =
    omega (arith, count_append f rows (replicate (places - length rows) unused), count_unused f (places - length rows) e)

count_pages : (f : ℕ → Bool) (rows : List Row) → count f (pages_of rows) ≡ count (λ row. f row.page) rows
count_pages f [] = refl
count_pages f (x ∷ xs) = omega (arith, count_pages f xs)

behind_unused : (x : Row) (m : ℕ) → ordered_behind x (replicate m unused) ≡ true
unfolding follows is_unused ◌and◌ ◌or◌
behind_unused x zero = refl
behind_unused x (suc m) = behind_unused unused m

above_one : (x : Row) (xs : List Row) → size_of 0 (x ∷ xs) ≡ 0 → above_zero x ≡ true
above_one x xs e = cases (eqb x.number 0) (λ g. absurd (omega (arith, bit_true _ g))) (λ g. omega tests)

follows_before : (x y : Row) → above_zero x ≡ true → row_before x y ≡ true → follows x y ≡ true
unfolding follows
follows_before x y e f = or_r _ _ (and_i _ _ e f)

rows_behind : (x : Row) (rows : List Row) (m : ℕ) → size_of 0 (x ∷ rows) ≡ 0 → ((q : ℕ) → count (λ row. eqb row.page q) (x ∷ rows) ≤ 1)
    → Sorted row_before (x ∷ rows) → ordered_behind x (rows ++ replicate m unused) ≡ true
rows_behind x [] m z o s = behind_unused x m
rows_behind x (y ∷ ys) m z o s =
    let strict : row_before x y ≡ true =
    cases (row_before x y) (λ e. e)
    (λ e. let same : x.page ≡ y.page = ap (λ row. row.page) (row_tie x y e s.0.0) in
    absurd (omega (arith, o x.page, bit_true (eqb x.page x.page) (eqb_self x.page), bit_true (eqb y.page x.page) (eq-eqb _ _ (sym same))))) in
    and_i _ _ (follows_before x y (above_one x (y ∷ ys) z) strict)
    (rows_behind y ys m (omega arith) (λ q. let h = o q in omega arith) s.1)

table_ordered : (rows : List Row) (m : ℕ) → size_of 0 rows ≡ 0 → ((q : ℕ) → count (λ row. eqb row.page q) rows ≤ 1) → Sorted row_before rows
    → ordered (rows ++ replicate m unused) ≡ true
table_ordered [] zero z o s = refl
table_ordered [] (suc m) z o s = unfold is_unused ◌and◌ ◌or◌ in behind_unused unused m
table_ordered (x ∷ xs) m z o s = and_i _ _ (or_r _ _ (above_one x xs z)) (rows_behind x xs m z o s)

all_present_in : (s : ℕ) (rows : List Row) → ((j : ℕ) → 0 < j → j ≤ s → 0 < size_of j rows) → present s rows ≡ true
all_present_in zero rows h = refl
all_present_in (suc i) rows h =
    and_i _ _ (lt-ltb _ _ (h (suc i) (omega arith) (omega arith))) (all_present_in i rows (λ j g l. h j g (omega arith)))

single_in_lem : (limit s : ℕ) (rows : List Row) → ((j : ℕ) → limit < j → size_of j rows ≤ 1) → single_above limit s rows ≡ true
single_in_lem limit zero rows h = refl
single_in_lem limit (suc i) rows h =
    and_i _ _
    (cases (leb (suc i) limit) (λ e. or_l _ _ e) (λ e. or_r _ _ (le-leb _ _ (h (suc i) (leb-false _ _ e)))))
    (single_in_lem limit i rows h)

-- a table that holds such rows is well formed
pub formed_table : (run : LayersRun) (places : ℕ) (rows : List Row) → FormedRows run.k run.a run.s rows → run.evictions ≤ run.requests
    → table_formed run (table_of places rows) ≡ true
unfolding table_formed
formed_table run places rows F le =
    let s = run.s in
    let limit = run.k - run.a in
    let table = table_of places rows in
    let size : (j : ℕ) → 0 < j → size_of j table ≡ size_of j rows = λ j h. count_table (λ row. eqb row.number j) places rows (omega tests) in
    let pages : distinct (pages_of (used_rows table)) ≡ true =
    rw (used_table places rows F.above) (once_distinct (pages_of rows)
    (λ q. omega (arith, F.once q, count_pages (eqb q) rows, count_ext (λ row. eqb q row.page) (λ row. eqb row.page q) rows (λ row. eqb_sym q row.page)))) in
    and_i _ _ (le-leb _ _ le)
    (and_i _ _ pages
    (and_i _ _ (table_ordered rows (places - length rows) F.above F.once F.sorted)
    (and_i _ _ (all_present_in s table (λ j h g. omega (arith, size j h, F.all_present j h g)))
    (and_i _ _ (eq-eqb _ _ (count_table (λ row. ltb s row.number) places rows (omega tests) ∙ F.below))
    (and_i _ _ (le-leb _ _ F.most)
    (and_i _ _ (single_in_lem limit s table (λ j h. omega (arith, size j (omega arith), F.single j h)))
    (cases (ltb limit s)
    (λ e. or_l _ _ e)
    (λ e. or_r _ _ (single_in_lem 0 s table (λ j h. omega (arith, size j h, F.few_single (ltb-false _ _ e) j h)))))))))))

-- The other way round

count_used : (f : Row → Bool) (rows : List Row) → ((row : Row) → f row ≡ true → above_zero row ≡ true) → count f (used_rows rows) ≡ count f rows
count_used f [] h = refl
count_used f (x ∷ xs) h =
    cases (above_zero x)
    (λ e. rw e (omega (arith, count_used f xs h)))
    (λ e. rw e (cases (f x) (λ g. clash _ (h x g) e) (λ g. omega (arith, bit_false (f x) g, count_used f xs h))))

none_at_zero : (rows : List Row) → size_of 0 (used_rows rows) ≡ 0
none_at_zero [] = refl
none_at_zero (x ∷ xs) =
    cases (ltb 0 x.number)
    (λ e. rw e (omega (arith, bit_false (eqb x.number 0) (omega tests), none_at_zero xs)))
    (λ e. rw e (none_at_zero xs))

present_at : (s : ℕ) (rows : List Row) → present s rows ≡ true → (j : ℕ) → 0 < j → j ≤ s → 0 < size_of j rows
present_at zero rows h j g l = absurd (omega arith)
present_at (suc i) rows h j g l =
    cases (eqb j (suc i))
    (λ e. rw (eqb-true j (suc i) e) (ltb-true _ _ (and_l _ _ h)))
    (λ e. present_at i rows (and_r _ _ h) j g (omega tests))

single_at : (limit s : ℕ) (rows : List Row) → single_above limit s rows ≡ true → (j : ℕ) → limit < j → j ≤ s → 0 < j → size_of j rows ≤ 1
single_at limit zero rows h j g l z = absurd (omega arith)
single_at limit (suc i) rows h j g l z =
    cases (eqb j (suc i))
    (λ e. let same : j ≡ suc i = eqb-true j (suc i) e in
    rw same (split (or_split _ _ (and_l _ _ h)) (λ low. let g' : suc i ≤ limit = leb-true (suc i) limit low in absurd (omega arith)) (λ one. leb-true _ _ one)))
    (λ e. single_at limit i rows (and_r _ _ h) j g (omega tests) z)

none_past : (s : ℕ) (rows : List Row) → count (λ row. ltb s row.number) rows ≡ 0 → (j : ℕ) → s < j → size_of j rows ≡ 0
none_past s [] h j g = refl
none_past s (x ∷ xs) h j g =
    let low : ltb s x.number ≡ false = cases (ltb s x.number) (λ e. absurd (omega (arith, bit_true _ e))) (λ e. e) in
    let other : eqb x.number j ≡ false = omega tests in
    omega (arith, bit_false _ low, bit_false _ other, none_past s xs (omega (arith, bit_false _ low)) j g)

pub formed_rows : (run : LayersRun) (rows : List Row) → table_formed run rows ≡ true → FormedRows run.k run.a run.s (used_rows rows)
formed_rows run rows w =
    let F = facts run rows w in
    let s = run.s in
    let size : (j : ℕ) → 0 < j → size_of j (used_rows rows) ≡ size_of j rows =
    λ j h. count_used (λ row. eqb row.number j) rows (λ row e. omega tests) in
    let none : count (λ row. ltb s row.number) rows ≡ 0 = eqb-true _ 0 F.none_higher in
    let below : count (λ row. ltb s row.number) (used_rows rows) ≡ 0 = count_used (λ row. ltb s row.number) rows (λ row e. omega tests) ∙ none in
    let at_most : (limit : ℕ) → single_above limit s rows ≡ true → (j : ℕ) → limit < j → size_of j (used_rows rows) ≤ 1 =
    λ limit h j g. cases (leb j s)
    (λ e. omega (arith, size j (omega arith), single_at limit s rows h j g (leb-true _ _ e) (omega arith)))
    (λ e. omega (arith, none_past s (used_rows rows) below j (leb-false _ _ e))) in
    record {
      above = none_at_zero rows;
      below = below;
      once = λ q. omega (
        arith,
        distinct_once (pages_of (used_rows rows)) F.once q,
        count_pages (eqb q) (used_rows rows),
        count_ext (λ row. eqb q row.page) (λ row. eqb row.page q) (used_rows rows) (λ row. eqb_sym q row.page),
      );
      sorted = ordered_sorted rows F.in_order;
      all_present = λ j h g. omega (arith, size j h, present_at s rows F.all_present j h g);
      most = leb-true _ _ F.s_low;
      single = at_most (run.k - run.a) F.single_high;
      few_single = λ few j h. at_most 0 (split (or_split _ _ F.single_few) (λ e. absurd (omega (arith, few, ltb-true (run.k - run.a) s e))) (λ e. e)) j h;
    }
