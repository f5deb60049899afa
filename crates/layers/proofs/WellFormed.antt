-- Well formed as plain facts, and what the readings of a table tell of it.
use Prim.Native.Nat.{ℕ, zero, suc, ◌+◌, ◌-◌, ◌≤◌, ◌<◌}
use native.Mathlib.Omega.{arith}
use mathlib.Core.Bool.{Bool, true, false}
use mathlib.Core.List.{List, [], ◌∷◌, ◌++◌}
use mathlib.Core.Path.{◌≡◌, refl, sym, ap, ◌∙◌}
use lib.Dec.{eqb, leb, ltb}
use lib.ListN.{length, take, replicate}
use lib.Seq.{take_at}
use borrow.Author.Tests.{lt-ltb, le-ltb, le-leb, eqb-true, eq-eqb, ne_eqb}
use Rattle.lists.specs.Choice.{◌or◌, ◌and◌}
use Rattle.lists.specs.Pages.{count, distinct}
use Rattle.lists.specs.Sorting.{Row}
use Rattle.lists.proofs.Choice.{tests, cases, split, clash, and_i, and_l, and_r, and_false_l, or_l, or_r, or_split}
use Rattle.lists.proofs.Pages.{count_length}
use Rattle.lists.proofs.Sorting.{row_eq, row_split}
use Rattle.paging.specs.Rows.{rows_of, pages_of, unused, used_rows, table_of}
use Rattle.paging.specs.Table.{above_zero, size_of}
use Rattle.paging.proofs.Rows.{pages_length, pages_back}
use Rattle.layers.specs.Formed.{is_unused, follows, ordered, ordered_behind, present, none_above, single_above, table_formed, counts_formed, layers_well_formed}
use Rattle.layers.specs.declared.LayersRun.{LayersRun}
use Rattle.layers.specs.inner.Sizes.{times_in, Tallied, present_in, single_in, numbered, sizes_formed}

-- the tests of table_formed, one by one
pub record Formed (run : LayersRun) (rows : List Row) : Type 0 where
  pub counted : leb run.evictions run.requests ≡ true
  pub once : distinct (pages_of (used_rows rows)) ≡ true
  pub in_order : ordered rows ≡ true
  pub all_present : present run.s rows ≡ true
  pub none_higher : none_above run.s rows ≡ true
  pub s_low : leb run.s run.k ≡ true
  pub single_high : single_above (run.k - run.a) run.s rows ≡ true
  pub single_few : (ltb (run.k - run.a) run.s or single_above 0 run.s rows) ≡ true

pub facts : (run : LayersRun) (rows : List Row) → table_formed run rows ≡ true → Formed run rows
unfolding table_formed
facts run rows w =
    let w1 = and_r _ _ w in
    let w2 = and_r _ _ w1 in
    let w3 = and_r _ _ w2 in
    let w4 = and_r _ _ w3 in
    let w5 = and_r _ _ w4 in
    let w6 = and_r _ _ w5 in
    record {
      counted = and_l _ _ w;
      once = and_l _ _ w1;
      in_order = and_l _ _ w2;
      all_present = and_l _ _ w3;
      none_higher = and_l _ _ w4;
      s_low = and_l _ _ w5;
      single_high = and_l _ _ w6;
      single_few = and_r _ _ w6;
    }

-- a test that fails makes the state ill formed
pub ill_formed : (run : LayersRun) (rows : List Row) (b : Bool) → b ≡ false → (Formed run rows → b ≡ true) → false ≡ table_formed run rows
ill_formed run rows b e f = cases (table_formed run rows) (λ w. clash b (f (facts run rows w)) e) (λ w. sym w)

-- the tests of counts_formed, as equations
pub record Counted (run : LayersRun) : Type 0 where
  pub sum : run.appends + run.joins + run.lifts ≡ run.requests
  pub bundles : run.joins ≡ run.evictions

pub counts_facts : (run : LayersRun) → counts_formed run ≡ true → Counted run
unfolding counts_formed
counts_facts run w = record { sum = eqb-true _ _ (and_l _ _ w); bundles = eqb-true _ _ (and_r _ _ w) }

pub counts_right : (run : LayersRun) → Counted run → counts_formed run ≡ true
unfolding counts_formed
counts_right run C = and_i _ _ (eq-eqb _ _ C.sum) (eq-eqb _ _ C.bundles)

-- the sum differs, or the joins do
pub counts_apart : (run : LayersRun) → (run.appends + run.joins + run.lifts ≡ run.requests → ⊥) → false ≡ counts_formed run
unfolding counts_formed
counts_apart run n = sym (and_false_l _ _ (ne_eqb _ _ n))

pub counts_joins : (run : LayersRun) → run.appends + run.joins + run.lifts ≡ run.requests → eqb run.joins run.evictions ≡ counts_formed run
unfolding counts_formed ◌and◌
counts_joins run e = rw (eq-eqb (run.appends + run.joins + run.lifts) run.requests e)

-- well formed is both
pub well_table : (run : LayersRun) (rows : List Row) → layers_well_formed run rows ≡ true → table_formed run rows ≡ true
unfolding layers_well_formed
well_table run rows w = and_r _ _ w

pub well_counts : (run : LayersRun) (rows : List Row) → layers_well_formed run rows ≡ true → Counted run
unfolding layers_well_formed
well_counts run rows w = counts_facts run (and_l _ _ w)

pub well_both : (run : LayersRun) (rows : List Row) → Counted run → table_formed run rows ≡ true → layers_well_formed run rows ≡ true
unfolding layers_well_formed
well_both run rows C t = and_i _ _ (counts_right run C) t

pub ill_by_counts : (run : LayersRun) (rows : List Row) → counts_formed run ≡ false → false ≡ layers_well_formed run rows
unfolding layers_well_formed
ill_by_counts run rows e = sym (and_false_l _ _ e)

pub well_by_table : (run : LayersRun) (rows : List Row) → counts_formed run ≡ true → table_formed run rows ≡ layers_well_formed run rows
unfolding layers_well_formed ◌and◌
well_by_table run rows e = rw e

-- Sizes

pub size_times : (ns ps : List ℕ) (i : ℕ) → length ps ≡ length ns → size_of i (rows_of ns ps) ≡ times_in i ns
size_times [] ps i e = refl
size_times (n ∷ ns) [] i e = absurd (omega arith)
size_times (n ∷ ns) (p ∷ ps) i e = omega (arith, size_times ns ps i (omega arith))

pub size_numbered : (ns : List ℕ) (i : ℕ) → size_of i (numbered ns) ≡ times_in i ns
size_numbered [] i = refl
size_numbered (n ∷ ns) i = omega (arith, size_numbered ns i)

present_same : (rows rows' : List Row) → ((i : ℕ) → size_of i rows ≡ size_of i rows') → (s : ℕ) → present s rows ≡ present s rows'
present_same rows rows' same zero = refl
present_same rows rows' same (suc i) = rw (same (suc i), present_same rows rows' same i)

single_same : (rows rows' : List Row) → ((i : ℕ) → size_of i rows ≡ size_of i rows') → (limit s : ℕ) → single_above limit s rows ≡ single_above limit s rows'
single_same rows rows' same limit zero = refl
single_same rows rows' same limit (suc i) = rw (same (suc i), single_same rows rows' same limit i)

pub sized_same : (run : LayersRun) (rows rows' : List Row) → ((i : ℕ) → size_of i rows ≡ size_of i rows') → sizes_formed run rows ≡ sizes_formed run rows'
unfolding sizes_formed
sized_same run rows rows' same =
    rw (present_same rows rows' same run.s, single_same rows rows' same (run.k - run.a) run.s, single_same rows rows' same 0 run.s)

pub sized_numbers : (run : LayersRun) (ns ps : List ℕ) → length ps ≡ length ns → sizes_formed run (numbered ns) ≡ sizes_formed run (rows_of ns ps)
sized_numbers run ns ps e = sized_same run (numbered ns) (rows_of ns ps) (λ i. size_numbered ns i ∙ sym (size_times ns ps i e))

-- the sizes as a list
module _ (ns sizes : List ℕ) (t : Tallied ns sizes) where
  pub present_told : (s : ℕ) → s < 257 → present_in s sizes ≡ present s (numbered ns)
  present_told zero h = refl
  present_told (suc i) h = rw (t.each (suc i) h ∙ sym (size_numbered ns (suc i)), present_told i (omega arith))

  pub single_told : (limit s : ℕ) → s < 257 → single_in limit s sizes ≡ single_above limit s (numbered ns)
  single_told limit zero h = refl
  single_told limit (suc i) h = rw (t.each (suc i) h ∙ sym (size_numbered ns (suc i)), single_told limit i (omega arith))

-- the tests of the sizes together, as they are read off the list
module _ (run : LayersRun) (ns sizes : List ℕ) (t : Tallied ns sizes) (limit s : ℕ) (el : limit ≡ run.k - run.a) (es : s ≡ run.s) (h : s < 257)
    (b : Bool) (first : b ≡ present_in s sizes) where
  present_is : present run.s (numbered ns) ≡ b
  present_is = rw (← es) (sym (first ∙ present_told ns sizes t s h))

  single_is : (m : ℕ) (d : Bool) → d ≡ single_in m s sizes → single_above m run.s (numbered ns) ≡ d
  single_is m d e = rw (← es) (sym (e ∙ single_told ns sizes t m s h))

  pub sized_first : b ≡ false → false ≡ sizes_formed run (numbered ns)
  unfolding sizes_formed ◌and◌
  sized_first e = rw (present_is, e)

  module _ (eb : b ≡ true) (d : Bool) (second : d ≡ single_in limit s sizes) where
    pub sized_second : d ≡ false → false ≡ sizes_formed run (numbered ns)
    unfolding sizes_formed ◌and◌
    sized_second e = rw (present_is, eb, ← el, single_is limit d second, e)

    pub sized_third : d ≡ true → limit < s → true ≡ sizes_formed run (numbered ns)
    unfolding sizes_formed ◌and◌ ◌or◌
    sized_third e g = rw (present_is, eb, ← el, single_is limit d second, e, ← es, lt-ltb limit s g)

    pub sized_last : (c : Bool) → d ≡ true → s ≤ limit → c ≡ single_in 0 s sizes → c ≡ sizes_formed run (numbered ns)
    unfolding sizes_formed ◌and◌ ◌or◌
    sized_last c e g told = rw (present_is, eb, ← el, single_is limit d second, e, single_is 0 c told, ← es, le-ltb limit s g)

-- the whole, where all tests but those of the sizes hold
pub formed_sized : (run : LayersRun) (rows : List Row) → run.evictions ≤ run.requests → distinct (pages_of (used_rows rows)) ≡ true → ordered rows ≡ true
    → none_above run.s rows ≡ true → run.s ≤ run.k → sizes_formed run rows ≡ table_formed run rows
unfolding sizes_formed table_formed ◌and◌
formed_sized run rows e d o n s = rw (le-leb run.evictions run.requests e, d, o, n, le-leb run.s run.k s)

-- none above s

pub above_numbers : (ns ps : List ℕ) (s : ℕ) → length ps ≡ length ns → eqb (count (λ n. ltb s n) ns) 0 ≡ none_above s (rows_of ns ps)
above_numbers ns ps s e = ap (λ n. eqb n 0) (same ns ps e)
  where
    same : (ms qs : List ℕ) → length qs ≡ length ms → count (λ n. ltb s n) ms ≡ count (λ row. ltb s row.number) (rows_of ms qs)
    same [] qs h = refl
    same (m ∷ ms) [] h = absurd (omega arith)
    same (m ∷ ms) (q ∷ qs) h = omega (arith, same ms qs (omega arith))

-- The used places of an ordered table are its first ones

blank : (x : Row) → is_unused x ≡ true → x ≡ unused
unfolding is_unused
blank x u = row_eq x unused (eqb-true x.number 0 (and_l _ _ u)) (eqb-true x.page 0 (and_r _ _ u))

unused_low : (x : Row) → is_unused x ≡ true → above_zero x ≡ false
unused_low x u = rw (blank x u)

-- behind an unused place all are unused
follows_unused : (x y : Row) → is_unused x ≡ true → follows x y ≡ true → is_unused y ≡ true
unfolding follows
follows_unused x y u f = split (or_split _ _ f) (λ g. g) (λ g. clash (above_zero x) (and_l _ _ g) (unused_low x u))

pub unused_behind : (x : Row) (rows : List Row) → is_unused x ≡ true → ordered_behind x rows ≡ true → rows ≡ replicate (length rows) unused
unused_behind x [] u o = refl
unused_behind x (y ∷ ys) u o =
    let v = follows_unused x y u (and_l _ _ o) in
    ap (λ z. z ∷ ys) (blank y v) ∙ ap (λ zs. unused ∷ zs) (unused_behind y ys v (and_r _ _ o))

pub used_blank : (n : ℕ) → used_rows (replicate n unused) ≡ []
used_blank zero = refl
used_blank (suc n) = used_blank n

follows_placed : (x y : Row) → follows x y ≡ true → (is_unused y or above_zero y) ≡ true
unfolding follows
follows_placed x y f =
    split (or_split _ _ f) (λ g. or_l _ _ g)
    (λ g. let above = and_l _ _ g in
    split (row_split x y (and_r _ _ g)) (λ h. or_r _ _ (omega tests)) (λ h. let e = h.0 in or_r _ _ (omega tests)))

-- a place and those behind it are the used ones, then unused ones
placed_on : (y : Row) (ys : List Row) → (is_unused y or above_zero y) ≡ true → ordered_behind y ys ≡ true → ys ≡ table_of (length ys) (used_rows ys)
    → y ∷ ys ≡ table_of (suc (length ys)) (used_rows (y ∷ ys))
placed_on y ys p o rest =
    cases (ltb 0 y.number)
    (λ u. let less : suc (length ys) - suc (length (used_rows ys)) ≡ length ys - length (used_rows ys) = omega arith in
    rw (u, less) (ap (λ zs. y ∷ zs) rest))
    (λ u. split (or_split _ _ p)
    (λ v. let all : y ∷ ys ≡ replicate (suc (length ys)) unused = ap (λ z. z ∷ ys) (blank y v) ∙ ap (λ zs. unused ∷ zs) (unused_behind y ys v o) in
    let none : used_rows (y ∷ ys) ≡ [] = ap used_rows all ∙ used_blank (suc (length ys)) in
    let whole : suc (length ys) - 0 ≡ suc (length ys) = omega arith in
    all ∙ sym (ap (λ zs. table_of (suc (length ys)) zs) none ∙ rw whole))
    (λ v. clash _ v u))

placed : (y : Row) (ys : List Row) → (is_unused y or above_zero y) ≡ true → ordered_behind y ys ≡ true → y ∷ ys ≡ table_of (suc (length ys)) (used_rows (y ∷ ys))
placed y [] p o = placed_on y [] p o refl
placed y (z ∷ zs) p o = placed_on y (z ∷ zs) p o (placed z zs (follows_placed y z (and_l _ _ o)) (and_r _ _ o))

-- an ordered table is its used rows, and unused places behind them
pub ordered_shape : (rows : List Row) → ordered rows ≡ true → rows ≡ table_of (length rows) (used_rows rows)
ordered_shape [] o = refl
ordered_shape (x ∷ xs) o = placed x xs (and_l _ _ o) (and_r _ _ o)

pages_append : (xs ys : List Row) → pages_of (xs ++ ys) ≡ pages_of xs ++ pages_of ys
pages_append [] ys = refl
pages_append (x ∷ xs) ys = ap (λ rest. x.page ∷ rest) (pages_append xs ys)

used_count : (ns ps : List ℕ) → length ps ≡ length ns → count (λ n. ltb 0 n) ns ≡ length (used_rows (rows_of ns ps))
used_count [] ps e = refl
used_count (n ∷ ns) [] e = absurd (omega arith)
used_count (n ∷ ns) (p ∷ ps) e =
    cases (ltb 0 n) (λ u. rw u (omega (arith, used_count ns ps (omega arith)))) (λ u. rw u (omega (arith, used_count ns ps (omega arith))))

pub used_pages : (ns ps : List ℕ) (n : ℕ) → length ps ≡ length ns → n ≡ count (λ m. ltb 0 m) ns → ordered (rows_of ns ps) ≡ true
    → take n ps ≡ pages_of (used_rows (rows_of ns ps))
used_pages ns ps n e told o =
    let rows = rows_of ns ps in
    let parts : ps ≡ pages_of (used_rows rows) ++ pages_of (replicate (length rows - length (used_rows rows)) unused) =
    sym (pages_back ns ps e) ∙ ap pages_of (ordered_shape rows o) ∙ pages_append (used_rows rows) _ in
    ap (take n) parts ∙ take_at (pages_of (used_rows rows)) _ n (pages_length (used_rows rows) ∙ sym (told ∙ used_count ns ps e))

pub used_most : (ns : List ℕ) (n : ℕ) → n ≡ count (λ m. ltb 0 m) ns → n ≤ length ns
used_most ns n told = omega (arith, count_length (λ m. ltb 0 m) ns)
