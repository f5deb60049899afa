-- The layers as a table agree with the layers as a map, for any rows, whatever their order: a request's effect on the rows, read off by
-- number_in, is its effect on the map.
use Prim.Native.Nat.{ℕ, ◌+◌, max}
use native.Mathlib.Omega.{arith}
use mathlib.Core.Bool.{Bool, true, false, not}
use mathlib.Core.List.{List, [], ◌∷◌, ◌++◌, map}
use mathlib.Core.Path.{◌≡◌, refl, sym, ap, ◌∙◌}
use lib.Dec.{eqb, leb, ltb}
use Rattle.lists.specs.Choice.{pick}
use Rattle.lists.specs.Pages.{count, filter}
use Rattle.lists.specs.Sorting.{Row, row_before, insert_by, sort_by}
use Rattle.lists.proofs.Choice.{tests, cases, eqb_sym, pick_true, pick_false}
use Rattle.paging.specs.Layers.{Layers, LayerRule, append, join, lift, is_join, no_layers, renumbered, top_after, layered, layers_after, layer_rules, join_count}
use Rattle.paging.specs.Table.{number_in, renumbered_row, above_zero, others_after, rule_in, rows_after, Tabled, nothing_yet, tabled_next, tabled_after}

-- what one row gives to the number of q
abbrev pub given : Row → ℕ → ℕ
given row q = pick (eqb row.page q) row.number 0

pub number_in_append : (xs ys : List Row) (q : ℕ) → number_in (xs ++ ys) q ≡ max (number_in xs q) (number_in ys q)
number_in_append [] ys q = omega arith
number_in_append (x ∷ xs) ys q = omega (arith, number_in_append xs ys q)

-- the number does not depend on the order of the rows
pub number_in_insert : (before : Row → Row → Bool) (x : Row) (ys : List Row) (q : ℕ)
    → number_in (insert_by before x ys) q ≡ max (given x q) (number_in ys q)
number_in_insert before x [] q = refl
number_in_insert before x (y ∷ ys) q =
    cases (before y x) (λ e. rw e (omega (arith, number_in_insert before x ys q))) (λ e. rw e (omega arith))

pub number_in_sort : (before : Row → Row → Bool) (xs : List Row) (q : ℕ) → number_in (sort_by before xs) q ≡ number_in xs q
number_in_sort before [] q = refl
number_in_sort before (x ∷ xs) q =
    omega (arith, number_in_insert before x (sort_by before xs) q, number_in_sort before xs q)

-- rows of L0 tell nothing
pub number_in_above_zero : (xs : List Row) (q : ℕ) → number_in (filter above_zero xs) q ≡ number_in xs q
number_in_above_zero [] q = refl
number_in_above_zero (x ∷ xs) q =
    cases (ltb 0 x.number)
    (λ e. rw e (omega (arith, number_in_above_zero xs q)))
    (λ e. rw e (omega (arith, number_in_above_zero xs q, nothing (eqb x.page q) x.number (omega tests))))
  where
    nothing : (b : Bool) (n : ℕ) → n ≡ 0 → pick b n 0 ≡ 0
    nothing true n e = e
    nothing false n e = refl

-- renumbering keeps L0 and the order of numbers
pub renumbered_zero : (rule : LayerRule) (k a i : ℕ) → renumbered rule k a i 0 ≡ 0
renumbered_zero append k a i = refl
renumbered_zero join k a i = omega arith
renumbered_zero lift k a i = cases (leb i 0) (λ e. rw e (omega arith)) (λ e. rw e)

pub renumbered_max : (rule : LayerRule) (k a i m n : ℕ)
    → renumbered rule k a i (max m n) ≡ max (renumbered rule k a i m) (renumbered rule k a i n)
renumbered_max append k a i m n = refl
renumbered_max join k a i m n = omega arith
renumbered_max lift k a i m n =
    cases (leb i m)
    (λ e. cases (leb i n)
    (λ f. let g : leb i (max m n) ≡ true = omega tests in rw (e, f, g) (omega tests))
    (λ f. let g : leb i (max m n) ≡ true = omega tests in rw (e, f, g) (omega tests)))
    (λ e. cases (leb i n)
    (λ f. let g : leb i (max m n) ≡ true = omega tests in rw (e, f, g) (omega tests))
    (λ f. let g : leb i (max m n) ≡ false = omega tests in rw (e, f, g) (omega tests)))

pub number_in_renumbered : (rule : LayerRule) (k a i : ℕ) (xs : List Row) (q : ℕ)
    → number_in (map (renumbered_row rule k a i) xs) q ≡ renumbered rule k a i (number_in xs q)
number_in_renumbered rule k a i [] q = sym (renumbered_zero rule k a i)
number_in_renumbered rule k a i (x ∷ xs) q =
    cases (eqb x.page q)
    (λ e. rw e (omega (arith, number_in_renumbered rule k a i xs q, renumbered_max rule k a i x.number (number_in xs q))))
    (λ e. rw e (omega (arith, number_in_renumbered rule k a i xs q, renumbered_max rule k a i 0 (number_in xs q), renumbered_zero rule k a i)))

-- the rows of the other pages
pub number_in_others : (p : ℕ) (xs : List Row) (q : ℕ)
    → number_in (filter (λ row. not (eqb row.page p)) xs) q ≡ pick (eqb q p) 0 (number_in xs q)
number_in_others p [] q = cases (eqb q p) (λ e. rw e) (λ e. rw e)
number_in_others p (x ∷ xs) q =
    cases (eqb x.page p)
    (λ e. cases (eqb q p)
    (λ f. rw (e, f) (number_in_others p xs q ∙ rw f))
    (λ f. let g : eqb x.page q ≡ false = omega tests in
    rw (e, f, g) (number_in_others p xs q ∙ rw f (omega arith))))
    (λ e. cases (eqb q p)
    (λ f. let g : eqb x.page q ≡ false = omega tests in
    rw (e, f, g) (let h : number_in (filter (λ row. not (eqb row.page p)) xs) q ≡ 0 = number_in_others p xs q ∙ rw f in omega arith))
    (λ f. let h : number_in (filter (λ row. not (eqb row.page p)) xs) q ≡ number_in xs q = number_in_others p xs q ∙ rw f in
    rw (e, f) (omega arith)))

-- the rows after a request give each page the number that the map gives it
pub table_agrees : (k a s p : ℕ) (rows : List Row) (q : ℕ) → number_in (rows_after k a s p rows) q ≡ (layered k a p (record { of = number_in rows; top = s })).of q
table_agrees k a s p rows q =
    let rule = rule_in k s p rows in
    let i = number_in rows p in
    let others = filter (λ row. not (eqb row.page p)) rows in
    let kept : number_in (others_after rule k a i p rows) q ≡ renumbered rule k a i (number_in others q) =
    number_in_sort row_before (filter above_zero (map (renumbered_row rule k a i) others)) q
    ∙ number_in_above_zero (map (renumbered_row rule k a i) others) q
    ∙ number_in_renumbered rule k a i others q in
    let last = number_in_append (others_after rule k a i p rows) (record { number = top_after rule k a s; page = p } ∷ []) q in
    cases (eqb q p)
    (λ e. let gone : number_in others q ≡ 0 = number_in_others p rows q ∙ rw e in
    let lost : renumbered rule k a i (number_in others q) ≡ 0 = rw gone (renumbered_zero rule k a i) in
    let own : pick (eqb p q) (top_after rule k a s) 0 ≡ top_after rule k a s = pick_true _ _ _ (eqb_sym p q ∙ e) in
    rw e (omega arith))
    (λ e. let same : number_in others q ≡ number_in rows q = number_in_others p rows q ∙ rw e in
    let moved : renumbered rule k a i (number_in others q) ≡ renumbered rule k a i (number_in rows q) = rw same in
    let own : pick (eqb p q) (top_after rule k a s) 0 ≡ 0 = pick_false _ _ _ (eqb_sym p q ∙ e) in
    rw e (omega arith))

-- the same of the whole map, with s
pub table_step : (k a s p : ℕ) (rows : List Row)
    → layered k a p (record { of = number_in rows; top = s }) ≡ record { of = number_in (rows_after k a s p rows); top = top_after (rule_in k s p rows) k a s }
table_step k a s p rows =
    λ i. record { of = λ q. sym (table_agrees k a s p rows q) i; top = top_after (rule_in k s p rows) k a s }

-- Rows along a trace

-- the map that rows with their s give
abbrev map_of : Tabled → Layers
map_of T = record { of = number_in T.rows; top = T.s }

layers_from : (k a : ℕ) (trace : List ℕ) (T : Tabled) → layers_after k a trace (map_of T) ≡ map_of (tabled_after k a trace T)
layers_from k a [] T = refl
layers_from k a (p ∷ ps) T =
    ap (λ L. layers_after k a ps L) (table_step k a T.s p T.rows) ∙ layers_from k a ps (tabled_next k a p T)

joins_from : (k a : ℕ) (trace : List ℕ) (T : Tabled) → (tabled_after k a trace T).joins ≡ T.joins + count is_join (layer_rules k a trace (map_of T))
joins_from k a [] T = omega arith
joins_from k a (p ∷ ps) T =
    omega (
      arith,
      joins_from k a ps (tabled_next k a p T),
      ap (λ L. count is_join (layer_rules k a ps L)) (table_step k a T.s p T.rows),
    )

-- the rows of a trace give the layers of the trace
pub tabled_map : (k a : ℕ) (trace : List ℕ) (q : ℕ) → number_in (tabled_after k a trace nothing_yet).rows q ≡ (layers_after k a trace no_layers).of q
tabled_map k a trace q = ap (λ L. L.of q) (sym (layers_from k a trace nothing_yet))

pub tabled_top : (k a : ℕ) (trace : List ℕ) → (tabled_after k a trace nothing_yet).s ≡ (layers_after k a trace no_layers).top
tabled_top k a trace = ap (λ L. L.top) (sym (layers_from k a trace nothing_yet))

pub tabled_joins : (k a : ℕ) (trace : List ℕ) → (tabled_after k a trace nothing_yet).joins ≡ join_count k a trace
tabled_joins k a trace = omega (arith, joins_from k a trace nothing_yet)

pub tabled_snoc : (k a : ℕ) (trace : List ℕ) (p : ℕ) (T : Tabled) → tabled_after k a (trace ++ (p ∷ [])) T ≡ tabled_next k a p (tabled_after k a trace T)
tabled_snoc k a [] p T = refl
tabled_snoc k a (q ∷ qs) p T = tabled_snoc k a qs p (tabled_next k a q T)
