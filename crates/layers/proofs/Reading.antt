-- The loops that read a table for refusal 9: one turn of each, and what they tell at the end.
use Prim.Native.Nat.{ℕ, zero, suc, ◌+◌, ◌-◌, ◌≤◌, ◌<◌}
use native.Mathlib.Numerals.{add-one}
use native.Mathlib.Omega.{arith}
use mathlib.Core.Bool.{Bool, true, false}
use mathlib.Core.List.{List, [], ◌∷◌}
use mathlib.Core.Path.{◌≡◌, refl, sym, ap, ◌∙◌}
use lib.Dec.{eqb, leb, ltb}
use lib.ListN.{length, take, drop, get_or, set, replicate, drop_of_length-le, length-set, get_or-replicate, length-replicate}
use lib.Seq.{drop-cons, take-suc, take_all, get_or-set_same, get_or-set_other, length-take-le}
use mir.Val.{bool_byte}
use Rattle.std.specs.List.{list_all}
use Rattle.std.proofs.Common.{zero-add}
use borrow.Author.Tests.{ne_eqb, lt-ltb, le-ltb, le-leb, lt-leb, leb-true, leb-false, eqb-true, eqb-false}
use Rattle.lists.specs.Choice.{◌and◌, ◌or◌}
use Rattle.lists.specs.Pages.{count, bit}
use Rattle.lists.specs.Sorting.{Row, row_before}
use Rattle.lists.proofs.Choice.{tests, cases, and_false_l, or_l}
use Rattle.lists.proofs.Pages.{count_snoc, count_length}
use Rattle.paging.specs.Rows.{row_at, rows_of, unused}
use Rattle.paging.specs.Table.{above_zero}
use Rattle.paging.proofs.Rows.{rows_length, rows_get}
use Rattle.layers.specs.Formed.{is_unused, follows, ordered, ordered_behind}
use Rattle.layers.specs.inner.Sizes.{Tallied, present_in, single_in}

pub and_true : (a b : Bool) → a ≡ true → (a and b) ≡ b
unfolding ◌and◌
and_true true b e = refl
and_true false b e = let z : ◌≡◌ {A = ℕ} 0 1 = cc in absurd (omega arith)

-- The order

pub zero_place : (n p : ℕ) → n ≡ 0 → eqb p 0 ≡ (is_unused (row_at n p) or above_zero (row_at n p))
unfolding ◌and◌ ◌or◌ is_unused
zero_place n p e = rw e (cases (eqb p 0) (λ z. rw z) (λ z. rw z))

pub used_place : (n p : ℕ) → (n ≡ 0 → ⊥) → true ≡ (is_unused (row_at n p) or above_zero (row_at n p))
unfolding ◌and◌ ◌or◌ is_unused
used_place n p e = rw (ne_eqb n 0 e, lt-ltb 0 n (omega (arith, e)))

pub follow_zero : (n p m q : ℕ) → m ≡ 0 → eqb q 0 ≡ follows (row_at n p) (row_at m q)
unfolding ◌and◌ ◌or◌ is_unused follows row_before
follow_zero n p m q e =
    rw e
    (cases (eqb q 0) (λ z. rw z)
    (λ z. cases (eqb n 0)
    (λ f. let u : ltb 0 n ≡ false = omega tests in rw (z, u))
    (λ f. let u : ltb 0 n ≡ true = omega tests in let v : ltb n 0 ≡ false = omega tests in rw (z, u, v, f))))

pub follow_none : (n p m q : ℕ) → (m ≡ 0 → ⊥) → n ≡ 0 → false ≡ follows (row_at n p) (row_at m q)
unfolding ◌and◌ ◌or◌ is_unused follows
follow_none n p m q e f = rw (ne_eqb m 0 e, le-ltb 0 n (omega arith))

pub follow_row : (n p m q : ℕ) (b : Bool) → (m ≡ 0 → ⊥) → (n ≡ 0 → ⊥) → b ≡ row_before (row_at n p) (row_at m q) → b ≡ follows (row_at n p) (row_at m q)
unfolding ◌and◌ ◌or◌ is_unused follows
follow_row n p m q b e f told = rw (ne_eqb m 0 e, lt-ltb 0 n (omega (arith, f))) told

module _ (ns ps : List ℕ) (e : length ps ≡ length ns) where
  row_next : (i : ℕ) → i < length ps → drop i (rows_of ns ps) ≡ row_at (get_or ns i 0) (get_or ps i 0) ∷ drop (i + 1) (rows_of ns ps)
  row_next i h =
      let all = rows_length ns ps e in
      rw (add-one i) (rw (rows_get ns ps i e) at (drop-cons (rows_of ns ps) i unused (omega arith)))

  pub order_none : length ps ≡ 0 → true ≡ ordered (rows_of ns ps)
  order_none h =
      let all = rows_length ns ps e in
      let none : drop 0 (rows_of ns ps) ≡ [] = drop_of_length-le (rows_of ns ps) {i = 0} (omega arith) in
      rw none

  pub order_first : (b : Bool) → 0 < length ps → b ≡ (is_unused (row_at (get_or ns 0 0) (get_or ps 0 0)) or above_zero (row_at (get_or ns 0 0) (get_or ps 0 0))) → b ≡ true
      → ordered (rows_of ns ps) ≡ ordered_behind (row_at (get_or ns (1 - 1) 0) (get_or ps (1 - 1) 0)) (drop 1 (rows_of ns ps))
  order_first b h told yes-first =
      let first : rows_of ns ps ≡ row_at (get_or ns 0 0) (get_or ps 0 0) ∷ drop 1 (rows_of ns ps) = row_next 0 h in
      ap ordered first ∙ and_true _ _ (sym told ∙ yes-first)

  pub order_first_bad : (b : Bool) → 0 < length ps → b ≡ (is_unused (row_at (get_or ns 0 0) (get_or ps 0 0)) or above_zero (row_at (get_or ns 0 0) (get_or ps 0 0))) → b ≡ false
      → false ≡ ordered (rows_of ns ps)
  order_first_bad b h told not_first =
      let first : rows_of ns ps ≡ row_at (get_or ns 0 0) (get_or ps 0 0) ∷ drop 1 (rows_of ns ps) = row_next 0 h in
      sym (ap ordered first ∙ and_false_l _ _ (sym told ∙ not_first))

  module _ (i : ℕ) (h : i < length ps) (b : Bool) (told : b ≡ follows (row_at (get_or ns (i - 1) 0) (get_or ps (i - 1) 0)) (row_at (get_or ns i 0) (get_or ps i 0)))
      (was : ordered (rows_of ns ps) ≡ ordered_behind (row_at (get_or ns (i - 1) 0) (get_or ps (i - 1) 0)) (drop i (rows_of ns ps))) where
    pub order_next : b ≡ true → ordered (rows_of ns ps) ≡ ordered_behind (row_at (get_or ns (i + 1 - 1) 0) (get_or ps (i + 1 - 1) 0)) (drop (i + 1) (rows_of ns ps))
    order_next yes-next =
        let back : i + 1 - 1 ≡ i = omega arith in
        rw back (was ∙ rw (row_next i h) (and_true _ _ (sym told ∙ yes-next)))

    pub order_bad : b ≡ false → false ≡ ordered (rows_of ns ps)
    order_bad not-next = sym (was ∙ rw (row_next i h) (and_false_l _ _ (sym told ∙ not-next)))

  pub order_end : (i : ℕ) (x : Row) → length ps ≤ i → ordered (rows_of ns ps) ≡ ordered_behind x (drop i (rows_of ns ps)) → true ≡ ordered (rows_of ns ps)
  order_end i x h was =
      let all = rows_length ns ps e in
      let none : drop i (rows_of ns ps) ≡ [] = drop_of_length-le (rows_of ns ps) {i = i} (omega arith) in
      sym (was ∙ rw none)

-- Counting along a list

pub count_next : (f : ℕ → Bool) (ns : List ℕ) (i : ℕ) → i < length ns → count f (take (i + 1) ns) ≡ count f (take i ns) + bit (f (get_or ns i 0))
count_next f ns i h = rw (add-one i, take-suc ns i 0 h) (count_snoc f (take i ns) (get_or ns i 0))

pub count_whole : (f : ℕ → Bool) (ns : List ℕ) (i : ℕ) → length ns ≤ i → count f (take i ns) ≡ count f ns
count_whole f ns i h = rw (take_all i ns h)

pub used_next : (ns : List ℕ) (i n : ℕ) → i < length ns → n ≡ count (λ m. ltb 0 m) (take i ns) → n + bool_byte (ltb 0 (get_or ns i 0)) ≡ count (λ m. ltb 0 m) (take (i + 1) ns)
used_next ns i n h was =
    rw (count_next (λ m. ltb 0 m) ns i h)
    (cases (ltb 0 (get_or ns i 0)) (λ e. rw e (omega arith)) (λ e. rw e (omega arith)))

-- no number is above s if all are at most s
pub all_low : (s : ℕ) (ns : List ℕ) → list_all (λ n. leb n s) ns ≡ eqb (count (λ n. ltb s n) ns) 0
all_low s [] = refl
all_low s (m ∷ ns) =
    cases (leb m s)
    (λ e. let h = leb-true m s e in rw (e, le-ltb s m h, zero-add (count (λ n. ltb s n) ns)) (all_low s ns))
    (λ e. let h = leb-false m s e in rw (e, lt-ltb s m h) (sym (ne_eqb (1 + count (λ n. ltb s n) ns) 0 (λ z. omega arith))))

-- The sizes

pub tally_start : (ns : List ℕ) → Tallied (take 0 ns) (replicate 257 0)
tally_start ns = record { long = length-replicate {A = ℕ} 257 0; each = λ i h. get_or-replicate {A = ℕ} 257 i 0 0 h }

module _ (ns sizes : List ℕ) (i n : ℕ) (h : i < length ns) (t : Tallied (take i ns) sizes) (told : n ≡ get_or ns i 0) where
  pub tally_low : n < 257 → get_or sizes n 0 ≤ i
  tally_low low =
      let l : length (take i ns) ≡ i = length-take-le i ns (omega arith) in
      omega (arith, t.each n low, count_length (λ m. eqb m n) (take i ns))

  pub tally_one : n < 257 → Tallied (take (i + 1) ns) (set sizes n (get_or sizes n 0 + 1))
  tally_one low =
      let l = t.long in
      record {
        long = length-set sizes n (get_or sizes n 0 + 1) ∙ l;
        each = λ j g. cases (eqb n j)
            (λ e. let same = eqb-true n j e in
            rw (count_next (λ m. eqb m j) ns i h, ← told, e, ← same, get_or-set_same sizes n (get_or sizes n 0 + 1) 0 (omega arith))
            (omega (arith, t.each n low)))
            (λ e. rw (count_next (λ m. eqb m j) ns i h, ← told, e, get_or-set_other sizes n j (get_or sizes n 0 + 1) 0 (λ q. eqb-false n j e (sym q)))
            (omega (arith, t.each j g)));
      }

  pub tally_skip : 257 ≤ n → Tallied (take (i + 1) ns) sizes
  tally_skip high =
      record {
        long = t.long;
        each = λ j g. rw (count_next (λ m. eqb m j) ns i h, ← told, ne_eqb n j (omega arith)) (omega (arith, t.each j g));
      }

pub tally_end : (ns sizes : List ℕ) (i : ℕ) → length ns ≤ i → Tallied (take i ns) sizes → Tallied ns sizes
tally_end ns sizes i h t = rw (take_all i ns h) at t

-- Reading the sizes from layer s down

pub present_next : (s i : ℕ) (sizes : List ℕ) → 0 < i → present_in s sizes ≡ present_in i sizes → (get_or sizes i 0 ≡ 0 → ⊥) → present_in s sizes ≡ present_in (i - 1) sizes
present_next s zero sizes h was some-page = absurd (omega arith)
present_next s (suc j) sizes h was some-page =
    let e : suc j - 1 ≡ j = omega arith in
    rw e (was ∙ and_true _ _ (lt-ltb 0 (get_or sizes (suc j) 0) (omega (arith, some-page))))

pub present_bad : (s i : ℕ) (sizes : List ℕ) → 0 < i → present_in s sizes ≡ present_in i sizes → get_or sizes i 0 ≡ 0 → false ≡ present_in s sizes
present_bad s zero sizes h was none = absurd (omega arith)
present_bad s (suc j) sizes h was none = sym (was ∙ and_false_l _ _ (le-ltb 0 (get_or sizes (suc j) 0) (omega arith)))

pub present_end : (s i : ℕ) (sizes : List ℕ) → i ≤ 0 → present_in s sizes ≡ present_in i sizes → true ≡ present_in s sizes
present_end s i sizes h was = let e : i ≡ 0 = omega arith in sym (was ∙ rw e)

pub single_next : (limit s i : ℕ) (sizes : List ℕ) → limit < i → single_in limit s sizes ≡ single_in limit i sizes → get_or sizes i 0 ≤ 1
    → single_in limit s sizes ≡ single_in limit (i - 1) sizes
unfolding ◌or◌
single_next limit s zero sizes h was few = absurd (omega arith)
single_next limit s (suc j) sizes h was few =
    let e : suc j - 1 ≡ j = omega arith in
    rw e (was ∙ and_true _ _ (rw (lt-leb (suc j) limit h, le-leb (get_or sizes (suc j) 0) 1 few)))

pub single_bad : (limit s i : ℕ) (sizes : List ℕ) → limit < i → single_in limit s sizes ≡ single_in limit i sizes → 1 < get_or sizes i 0 → false ≡ single_in limit s sizes
unfolding ◌or◌
single_bad limit s zero sizes h was many = absurd (omega arith)
single_bad limit s (suc j) sizes h was many = sym (was ∙ and_false_l _ _ (rw (lt-leb (suc j) limit h, lt-leb (get_or sizes (suc j) 0) 1 many)))

single_low : (limit i : ℕ) (sizes : List ℕ) → i ≤ limit → single_in limit i sizes ≡ true
single_low limit zero sizes h = refl
single_low limit (suc i) sizes h = and_true _ _ (or_l _ _ (le-leb (suc i) limit h)) ∙ single_low limit i sizes (omega arith)

pub single_end : (limit s i : ℕ) (sizes : List ℕ) → i ≤ limit → single_in limit s sizes ≡ single_in limit i sizes → true ≡ single_in limit s sizes
single_end limit s i sizes h was = sym (was ∙ single_low limit i sizes h)
