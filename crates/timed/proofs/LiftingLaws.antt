-- A request for a page that has a row, by 1c, with times beside the rows: one turn of each loop, the rows that the model has afterwards, and that the
-- three lists are those rows with their times.
use Prim.Native.Nat.{ℕ, zero, suc, ◌+◌, ◌-◌, ◌≤◌, ◌<◌, min}
use native.Mathlib.Numerals.{add-one}
use native.Mathlib.Omega.{arith}
use mathlib.Core.Bool.{Bool, true, false, not}
use mathlib.Core.List.{List, [], ◌∷◌, ◌++◌, map, append_assoc, append-nil}
use mathlib.Core.Path.{◌≡◌, refl, sym, ap, ◌∙◌}
use Rattle.std.specs.Prelude.{Ok}
use lib.Dec.{eqb, leb, ltb}
use lib.ListN.{length, take, drop, get_or, set, replicate, length-append, length-take, length-drop, length-replicate, length-set, drop_of_length-le}
use lib.ListN.{take-append-drop, length-map, replicate-append-replicate}
use lib.Seq.{take-nil, drop-cons, take-suc, take-take, length-take-le, take_at, take_all, drop_at, set_at, get_or_at, get_or-take, drop-drop, drop-append-le, take-append-le}
use mir.Val.{bool_byte}
use borrow.Author.Tests.{eqb-true, lt-ltb, le-ltb, not-true, ne_eqb}
use Rattle.lists.specs.Pages.{mem, distinct, count, filter}
use Rattle.lists.specs.Places.{place, moved_to_end, first_dropped}
use Rattle.lists.specs.Sorting.{Row, row_before, sort_by, sort_rows, Least, Sorted}
use Rattle.lists.proofs.Choice.{tests, cases, split, clash, and_l, and_r, or_none_l, or_none_r, or_split, bit_true, bit_false, eqb_sym}
use Rattle.lists.proofs.Leaves.{mem_place}
use Rattle.lists.proofs.Pages.{count_append, count_snoc, count_length, count_mono}
use Rattle.lists.proofs.Parts.{drop_take, map_snoc}
use Rattle.lists.proofs.Sorting.{sort_sorted, length_sort}
use Rattle.lists.proofs.Stable.{sorted_take, sorted_drop}
use Rattle.marking.specs.Rdm.{t0_after}
use Rattle.paging.specs.Layers.{lift}
use Rattle.paging.proofs.Forming.{lift_is}
use Rattle.paging.specs.Rows.{row_at, rows_of, numbers_of, pages_of, unused, table_of}
use Rattle.paging.specs.Table.{number_in, renumbered_row, above_zero, rule_in, rows_after}
use Rattle.paging.proofs.Rows.{rows_length, rows_get, rows_take, rows_drop, rows_append, numbers_back, pages_back}
use Rattle.paging.specs.declared.applied.RuleApplied.TheVariants.{Lift}
use Rattle.timed.specs.Moving.{others, made_last, less_from, between, TakenOut, SortedBeside}
use Rattle.timed.specs.Timed.{TimedReady, TimedTo}
use Rattle.timed.proofs.Follow.{map_append, map_take, map_drop, part_follows, get_follows, used_pages, t0_follows, number_some, timed_served}
use Rattle.timed.proofs.JoiningLaws.{unused_rows, after_used, rule_used}
use Rattle.timed.proofs.Rising.{Up_to, Above, left_rise, cut_at, cuts_rise, count_rows, sort_parts, sort_one_number, sort_beside, rows_of_one, low_same, high_sorted}
use Rattle.timed.proofs.Rising.{all_gone, all_stay, filter_append}

-- An entry put behind the others

others_length : {A : Type 0} (at used : ℕ) (xs : List A) → at < used → used ≤ length xs → length (others at used xs) ≡ used - 1
others_length at used xs h g = simp (length-append, length-take, length-drop) (omega arith)

pub made_last_lem : (at used : ℕ) (l y : List ℕ) → at < used → used ≤ length l → y ≡ moved_to_end 0 (take (used - at) (drop at l))
    → take at l ++ (y ++ drop (used - at) (drop at l)) ≡ made_last at used l
made_last_lem at used l y h g e =
    let more : used - at ≡ suc (used - suc at) = omega arith in
    let part : take (used - at) (drop at l) ≡ get_or l at 0 ∷ take (used - suc at) (drop (suc at) l) = rw (more, drop-cons l at 0 (omega arith)) in
    let back : at + (used - at) ≡ used = omega arith in
    let moved : y ≡ take (used - suc at) (drop (suc at) l) ++ (get_or l at 0 ∷ []) = e ∙ rw part in
    rw (moved, drop-drop (used - at) at l, back)
    (ap (λ (r : List ℕ). take at l ++ r) (append_assoc (take (used - suc at) (drop (suc at) l)) (get_or l at 0 ∷ []) (drop used l))
    ∙ sym (append_assoc (take at l) (take (used - suc at) (drop (suc at) l)) (get_or l at 0 ∷ drop used l)))

-- Numbers lowered, one after the other

pub less_fits : (i n : ℕ) → 0 < i → bool_byte (leb i n) ≤ n
less_fits i n h = cases (leb i n) (λ e. rw e (omega tests)) (λ e. rw e (omega arith))

pub record Lowering (g : ℕ → ℕ) (ns₀ ns : List ℕ) (j : ℕ) : Type 0 where
  pub long : length ns ≡ length ns₀
  pub shape : ns ≡ map g (take j ns₀) ++ drop j ns₀

pub lowering_start : (g : ℕ → ℕ) (ns : List ℕ) → Lowering g ns ns 0
lowering_start g ns = record { long = refl; shape = refl }

module _ (g : ℕ → ℕ) (ns₀ ns : List ℕ) (j : ℕ) (h : j < length ns₀) (L : Lowering g ns₀ ns j) where
  lowered_front : length (map g (take j ns₀)) ≡ j
  lowered_front = length-map (take j ns₀) g ∙ length-take-le j ns₀ (omega arith)

  lowering_reads : get_or ns j 0 ≡ get_or ns₀ j 0
  lowering_reads = rw (L.shape, drop-cons ns₀ j 0 h) (get_or_at (map g (take j ns₀)) (get_or ns₀ j 0) (drop (suc j) ns₀) 0 j lowered_front)

  pub lowering_next : (v : ℕ) → v ≡ g (get_or ns j 0) → Lowering g ns₀ (set ns j v) (j + 1)
  lowering_next v told =
      let is : v ≡ g (get_or ns₀ j 0) = rw lowering_reads at told in
      let stored : set ns j (g (get_or ns₀ j 0)) ≡ map g (take j ns₀) ++ (g (get_or ns₀ j 0) ∷ drop (suc j) ns₀) =
      rw (L.shape, drop-cons ns₀ j 0 h) (set_at (map g (take j ns₀)) (get_or ns₀ j 0) (drop (suc j) ns₀) (g (get_or ns₀ j 0)) j lowered_front) in
      let shape : set ns j (g (get_or ns₀ j 0)) ≡ map g (take (j + 1) ns₀) ++ drop (j + 1) ns₀ =
      stored
      ∙ rw (add-one j, take-suc ns₀ j 0 h, map_snoc g (take j ns₀) (get_or ns₀ j 0))
      (sym (append_assoc (map g (take j ns₀)) (g (get_or ns₀ j 0) ∷ []) (drop (suc j) ns₀))) in
      record { long = length-set ns j _ ∙ L.long; shape = rw is shape }

pub lowering_end : (g : ℕ → ℕ) (ns₀ ns : List ℕ) (j : ℕ) → length ns₀ ≤ j → Lowering g ns₀ ns j → ns ≡ map g ns₀
lowering_end g ns₀ ns j h L =
    let none : drop j ns₀ ≡ [] = drop_of_length-le ns₀ {i = j} h in
    rw (take_all j ns₀ h, none, append-nil (map g ns₀)) at L.shape

pub one_less_from : (i n : ℕ) → n - bool_byte (leb i n) ≡ less_from i n
one_less_from i n = cases (leb i n) (λ e. rw e) (λ e. rw e (omega arith))

-- Counting numbers up to a limit

pub most_next : (limit : ℕ) (ns : List ℕ) (j found : ℕ) → j < length ns → found ≡ count (λ n. leb n limit) (take j ns)
    → found + bool_byte (leb (get_or ns j 0) limit) ≡ count (λ n. leb n limit) (take (j + 1) ns)
most_next limit ns j found h e =
    rw (add-one j, take-suc ns j 0 h, count_snoc (λ n. leb n limit) (take j ns) (get_or ns j 0))
    (cases (leb (get_or ns j 0) limit) (λ g. rw g (omega arith)) (λ g. rw g (omega arith)))

pub most_end : (limit : ℕ) (ns : List ℕ) (j found : ℕ) → length ns ≤ j → found ≡ count (λ n. leb n limit) (take j ns) → found ≡ count (λ n. leb n limit) ns
most_end limit ns j found h e = rw (take_all j ns h) at e

pub most_few : (limit : ℕ) (ns : List ℕ) (j found : ℕ) → found ≡ count (λ n. leb n limit) (take j ns) → found ≤ j
most_few limit ns j found e = omega (arith, count_length (λ n. leb n limit) (take j ns), length-take j ns)

-- The row taken out

pub taken_out : (at used i s : ℕ) (ns ps ts ns₁ ns₂ ps' ts' : List ℕ) → at < used → used ≤ length ns → ps' ≡ made_last at used ps → ts' ≡ made_last at used ts
    → ns₁ ≡ made_last at used ns → ns₂ ≡ map (less_from i) (take (used - 1) ns₁) ++ drop (used - 1) ns₁
    → TakenOut at used i s ns ps ts (set ns₂ (used - 1) s) ps' ts'
taken_out at used i s ns ps ts ns₁ ns₂ ps' ts' h g ep et e₁ e₂ =
    let O = others at used ns in
    let n : length O ≡ used - 1 = others_length at used ns h g in
    let m : length (map (less_from i) O) ≡ used - 1 = length-map O (less_from i) ∙ n in
    let front : take (used - 1) ns₁ ≡ O = rw e₁ (take_at O (get_or ns at 0 ∷ drop used ns) (used - 1) n) in
    let back : drop (used - 1) ns₁ ≡ get_or ns at 0 ∷ drop used ns = rw e₁ (drop_at O (get_or ns at 0 ∷ drop used ns) (used - 1) n) in
    let numbers : set ns₂ (used - 1) s ≡ map (less_from i) O ++ (s ∷ drop used ns) =
    rw (e₂, front, back) (set_at (map (less_from i) O) (get_or ns at 0) (drop used ns) s (used - 1) m) in
    record { numbers_told = numbers; pages_told = ep; times_told = et }

-- The rows of the model

filter_absent : (p : ℕ) (xs : List Row) → mem p (pages_of xs) ≡ false → (filter (λ row. not (eqb row.page p)) xs ≡ xs) × (number_in xs p ≡ 0)
filter_absent p [] m = (refl, refl)
filter_absent p (x ∷ xs) m =
    let other : eqb x.page p ≡ false = eqb_sym x.page p ∙ or_none_l _ _ m in
    let rest = filter_absent p xs (or_none_r _ _ m) in
    let z = rest.1 in
    (rw other (ap (λ (l : List Row). x ∷ l) rest.0), rw other (omega arith))

-- where p stands once, all rows but the one at its place are of other pages, and its number is that of the row there
filter_place : (p : ℕ) (xs : List Row) → distinct (pages_of xs) ≡ true → mem p (pages_of xs) ≡ true
    → (filter (λ row. not (eqb row.page p)) xs ≡ take (place p (pages_of xs)) xs ++ drop (suc (place p (pages_of xs))) xs)
    × (number_in xs p ≡ (get_or xs (place p (pages_of xs)) unused).number) × ((get_or xs (place p (pages_of xs)) unused).page ≡ p)
filter_place p [] d m = clash false m refl
filter_place p (x ∷ xs) d m =
    cases (eqb p x.page)
    (λ e. let own : eqb x.page p ≡ true = eqb_sym x.page p ∙ e in
    let gone : mem p (pages_of xs) ≡ false = rw (eqb-true p x.page e) (not-true _ (and_l _ _ d)) in
    let rest = filter_absent p xs gone in
    let z = rest.1 in
    rw (own, e) (rest.0, omega arith, sym (eqb-true p x.page e)))
    (λ e. let other : eqb x.page p ≡ false = eqb_sym x.page p ∙ e in
    let there : mem p (pages_of xs) ≡ true = split (or_split _ _ m) (λ g. clash _ g e) (λ g. g) in
    let rest = filter_place p xs (and_r _ _ d) there in
    let z = rest.1 in
    rw (other, e) (ap (λ (l : List Row). x ∷ l) rest.0, omega arith, rest.2))

sorted_out : (n : ℕ) (xs : List Row) → Sorted row_before xs → Sorted row_before (take n xs ++ drop (suc n) xs)
sorted_out n [] s = rw (take-nil n) tt
sorted_out zero (x ∷ xs) s = s.1
sorted_out (suc n) (x ∷ xs) s = (least n xs s.0, sorted_out n xs s.1)
  where
    least : (n : ℕ) (ys : List Row) → Least row_before x ys → Least row_before x (take n ys ++ drop (suc n) ys)
    least n [] l = rw (take-nil n) tt
    least zero (y ∷ ys) l = l.1
    least (suc n) (y ∷ ys) l = (l.0, least n ys l.1)

rows_less : (k a i : ℕ) (ms qs : List ℕ) → map (renumbered_row lift k a i) (rows_of ms qs) ≡ rows_of (map (less_from i) ms) qs
rows_less k a i [] qs = refl
rows_less k a i (m ∷ ms) [] = refl
rows_less k a i (m ∷ ms) (q ∷ qs) = ap (λ (l : List Row). row_at (less_from i m) q ∷ l) (rows_less k a i ms qs)

three_parts : {A : Type 0} (b e : ℕ) (xs : List A) → b ≤ e → xs ≡ take b xs ++ (take (e - b) (drop b xs) ++ drop e xs)
three_parts b e xs h =
    let n : b + (e - b) ≡ e = omega arith in
    let back : drop b xs ≡ take (e - b) (drop b xs) ++ drop e xs = sym (take-append-drop (e - b) (drop b xs)) ∙ rw (drop-drop (e - b) b xs, n) in
    sym (take-append-drop b xs) ∙ ap (λ (l : List _). take b xs ++ l) back

out_fewer : (f : Row → Bool) (n : ℕ) (xs : List Row) → count f (take n xs ++ drop (suc n) xs) ≤ count f xs
out_fewer f n [] = rw (take-nil n) (omega arith)
out_fewer f zero (x ∷ xs) = omega arith
out_fewer f (suc n) (x ∷ xs) = omega (arith, out_fewer f n xs)

left_above : (i : ℕ) (ms : List ℕ) → 2 ≤ i → count (λ n. eqb n 0) ms ≡ 0 → Above 0 (map (less_from i) ms)
left_above i [] h z = refl
left_above i (m ∷ ms) h z =
    let some : eqb m 0 ≡ false = cases (eqb m 0) (λ e. absurd (omega (arith, bit_true _ e))) (λ e. e) in
    let low : leb (less_from i m) 0 ≡ false = split (lift_is 0 0 i m) (λ d. omega tests) (λ d. omega tests) in
    omega (arith, bit_false _ low, left_above i ms h (omega arith))

-- the pages between two places sorted
abbrev sorted_between : (b e : ℕ) → List ℕ → List ℕ
sorted_between b e qs = take b qs ++ (sort_by ltb (take (e - b) (drop b qs)) ++ drop e qs)

-- The rows that are left, in order: their numbers are ms before the request, and their pages qs

module _ (k a i : ℕ) (ms qs : List ℕ) (e : length qs ≡ length ms) (s : Sorted row_before (rows_of ms qs)) where
  even : length qs ≡ length (map (less_from i) ms)
  even = e ∙ sym (length-map ms (less_from i))

  rise : Sorted ltb (map (less_from i) ms)
  rise = left_rise i ms qs e s

  part_even : (n : ℕ) → length (take n qs) ≡ length (take n (map (less_from i) ms))
  part_even n = simp length-take (rw even)

  rest_even : (n : ℕ) → length (drop n qs) ≡ length (drop n (map (less_from i) ms))
  rest_even n = simp length-drop (rw even)

  -- behind the cut the rows are in order
  rest_sorted : (f : ℕ) → Above (i - 1) (drop f (map (less_from i) ms)) → Sorted row_before (rows_of (drop f (map (less_from i) ms)) (drop f qs))
  rest_sorted f high =
      let rows : rows_of (drop f (map (less_from i) ms)) (drop f qs) ≡ map (renumbered_row lift k a i) (drop f (rows_of ms qs)) =
      rows_drop (map (less_from i) ms) qs f even ∙ ap (drop f) (sym (rows_less k a i ms qs)) ∙ sym (map_drop (renumbered_row lift k a i) f (rows_of ms qs)) in
      let above : count (λ row. leb row.number (i - 1)) (rows_of (drop f (map (less_from i) ms)) (drop f qs)) ≡ 0 =
      count_rows (λ n. leb n (i - 1)) (drop f (map (less_from i) ms)) (drop f qs) (rest_even f) ∙ high in
      rw rows (high_sorted k a i (drop f (rows_of ms qs)) (rw (← rows) above) (sorted_drop row_before f (rows_of ms qs) s))

  -- layer 1: its rest goes
  pub lowest_sort : (gone : ℕ) → i ≡ 1 → gone ≡ count (λ n. leb n 0) (map (less_from i) ms)
      → sort_rows (filter above_zero (rows_of (map (less_from i) ms) qs)) ≡ rows_of (drop gone (map (less_from i) ms)) (drop gone qs)
  lowest_sort gone one eg =
      let N = map (less_from i) ms in
      let cut = cut_at 0 gone N rise eg in
      let zero_high : i - 1 ≡ 0 = omega arith in
      let low : filter above_zero (rows_of (take gone N) (take gone qs)) ≡ [] =
      all_gone (rows_of (take gone N) (take gone qs)) (count_rows (λ n. ltb 0 n) (take gone N) (take gone qs) (part_even gone) ∙ cut.0) in
      let high : filter above_zero (rows_of (drop gone N) (drop gone qs)) ≡ rows_of (drop gone N) (drop gone qs) =
      all_stay (rows_of (drop gone N) (drop gone qs)) (count_rows (λ n. leb n 0) (drop gone N) (drop gone qs) (rest_even gone) ∙ cut.1) in
      let parts : rows_of N qs ≡ rows_of (take gone N) (take gone qs) ++ rows_of (drop gone N) (drop gone qs) =
      sym (take-append-drop gone (rows_of N qs)) ∙ rw (rows_take N qs gone, rows_drop N qs gone even) in
      let stay : filter above_zero (rows_of N qs) ≡ rows_of (drop gone N) (drop gone qs) =
      ap (filter above_zero) parts ∙ filter_append above_zero (rows_of (take gone N) (take gone qs)) (rows_of (drop gone N) (drop gone qs)) ∙ rw (low, high) in
      ap sort_rows stay ∙ sort_sorted row_before (rows_of (drop gone N) (drop gone qs)) (rest_sorted gone (rw zero_high cut.1))

  -- a layer above it: its rest and the layer below it are sorted by page
  module _ (b f : ℕ) (h : 2 ≤ i) (eb : b ≡ count (λ n. leb n (i - 2)) (map (less_from i) ms)) (ef : f ≡ count (λ n. leb n (i - 1)) (map (less_from i) ms)) where
    pub cuts : (b ≤ f) × (f ≤ length qs)
    cuts =
        let w = cuts_rise (i - 2) (i - 1) b f (map (less_from i) ms) rise (omega arith) eb ef in
        let n = even in
        (w.0, omega (arith, w.1))

    middle_is : (ns : List ℕ) → take (f - b) (drop b ns) ≡ drop b (take f ns)
    middle_is ns = sym (drop_take b f ns cuts.0)

    middle_even : length (take (f - b) (drop b qs)) ≡ length (take (f - b) (drop b (map (less_from i) ms)))
    middle_even = simp (length-take, length-drop) (rw even)

    -- the numbers of the middle part are all i - 1
    middle_rows : (rs : List ℕ) → length rs ≡ length (take (f - b) (drop b qs)) → rows_of (take (f - b) (drop b (map (less_from i) ms))) rs ≡ map (row_at (i - 1)) rs
    middle_rows rs l =
        let N = map (less_from i) ms in
        let lower = cut_at (i - 2) b N rise eb in
        let upper = cut_at (i - 1) f N rise ef in
        let most : Up_to (i - 1) (take (f - b) (drop b N)) = rw (middle_is N) (rest_none (λ n. ltb (i - 1) n) b (take f N) upper.0) in
        let least : count (λ n. ltb n (i - 1)) (take (f - b) (drop b N)) ≡ 0 =
        let fewer = count_mono (λ n. ltb n (i - 1)) (λ n. leb n (i - 2)) (take (f - b) (drop b N)) (λ n g. omega tests) in
        omega (arith, front_none (λ n. leb n (i - 2)) (f - b) (drop b N) lower.1) in
        rows_of_one (i - 1) (take (f - b) (drop b N)) rs (l ∙ middle_even) most least
      where
        rest_none : (g : ℕ → Bool) (n : ℕ) (xs : List ℕ) → count g xs ≡ 0 → count g (drop n xs) ≡ 0
        rest_none g n xs z = omega (arith, count_append g (take n xs) (drop n xs), ap (count g) (take-append-drop n xs))

        front_none : (g : ℕ → Bool) (n : ℕ) (xs : List ℕ) → count g xs ≡ 0 → count g (take n xs) ≡ 0
        front_none g n xs z = omega (arith, count_append g (take n xs) (drop n xs), ap (count g) (take-append-drop n xs))

    pub higher_sort : count (λ n. eqb n 0) ms ≡ 0
        → sort_rows (filter above_zero (rows_of (map (less_from i) ms) qs)) ≡ rows_of (map (less_from i) ms) (sorted_between b f qs)
    higher_sort z =
        let N = map (less_from i) ms in
        let M = take (f - b) (drop b qs) in
        let X = rows_of N qs in
        let lower = cut_at (i - 2) b N rise eb in
        let upper = cut_at (i - 1) f N rise ef in
        let stay : filter above_zero X ≡ X = all_stay X (count_rows (λ n. leb n 0) N qs even ∙ left_above i ms h z) in
        let first : rows_of (take b N) (take b qs) ≡ take b X = rows_take N qs b in
        let mid : rows_of (take (f - b) (drop b N)) M ≡ map (row_at (i - 1)) M = middle_rows M refl in
        let last : rows_of (drop f N) (drop f qs) ≡ drop f X = rows_drop N qs f even in
        let parts : X ≡ take b X ++ (map (row_at (i - 1)) M ++ drop f X) =
        three_parts b f X cuts.0 ∙ rw (← rows_drop N qs b even, ← rows_take (drop b N) (drop b qs) (f - b), mid) in
        let low : count (λ row. ltb (i - 2) row.number) (take b X) ≡ 0 =
        rw (← first) (count_rows (λ n. ltb (i - 2) n) (take b N) (take b qs) (part_even b) ∙ lower.0) in
        let behind : count (λ row. leb row.number (i - 2)) (map (row_at (i - 1)) M ++ drop f X) ≡ 0 =
        rw (← mid, rows_take (drop b N) (drop b qs) (f - b), rows_drop N qs b even, ← back X) (rw (← rows_drop N qs b even)
        (count_rows (λ n. leb n (i - 2)) (drop b N) (drop b qs) (rest_even b) ∙ lower.1)) in
        let between : count (λ row. ltb (i - 1) row.number) (map (row_at (i - 1)) M) ≡ 0 = one_number M in
        let high : count (λ row. leb row.number (i - 1)) (drop f X) ≡ 0 =
        rw (← last) (count_rows (λ n. leb n (i - 1)) (drop f N) (drop f qs) (rest_even f) ∙ upper.1) in
        let low-sorted : sort_rows (take b X) ≡ take b X =
        sort_sorted row_before (take b X) (rw (as_before low) (sorted_take row_before b (rows_of ms qs) s)) in
        let high-sorted' : sort_rows (drop f X) ≡ drop f X = sort_sorted row_before (drop f X) (rw last at (rest_sorted f upper.1)) in
        let sorted : sort_rows X ≡ take b X ++ (map (row_at (i - 1)) (sort_by ltb M) ++ drop f X) =
        ap sort_rows parts
        ∙ sort_parts (i - 2) (take b X) (map (row_at (i - 1)) M ++ drop f X) low behind
        ∙ rw (low-sorted, sort_parts (i - 1) (map (row_at (i - 1)) M) (drop f X) between high, high-sorted', sort_one_number (i - 1) M) in
        let made : rows_of N (sorted_between b f qs) ≡ take b X ++ (map (row_at (i - 1)) (sort_by ltb M) ++ drop f X) =
        ap (λ (l : List ℕ). rows_of l (sorted_between b f qs)) (three_parts b f N cuts.0)
        ∙ rw (
          rows_append (take b N) (take (f - b) (drop b N) ++ drop f N) (take b qs) (sort_by ltb M ++ drop f qs) (part_even b),
          rows_append (take (f - b) (drop b N)) (drop f N) (sort_by ltb M) (drop f qs) (length_sort ltb M ∙ middle_even),
          first,
          middle_rows (sort_by ltb M) (length_sort ltb M),
          last,
        ) in
        ap sort_rows stay ∙ sorted ∙ sym made
      where
        back : (X : List Row) → drop b X ≡ take (f - b) (drop b X) ++ drop f X
        back X =
            let n : b + (f - b) ≡ f = let w = cuts.0 in omega arith in
            sym (take-append-drop (f - b) (drop b X)) ∙ rw (drop-drop (f - b) b X, n)

        one_number : (rs : List ℕ) → count (λ row. ltb (i - 1) row.number) (map (row_at (i - 1)) rs) ≡ 0
        one_number [] = refl
        one_number (r ∷ rs) = omega (arith, bit_false (ltb (i - 1) (i - 1)) (le-ltb (i - 1) (i - 1) (omega arith)), one_number rs)

        as_before : count (λ row. ltb (i - 2) row.number) (take b (rows_of (map (less_from i) ms) qs)) ≡ 0
            → take b (rows_of (map (less_from i) ms) qs) ≡ take b (rows_of ms qs)
        as_before low =
            let over : take b (rows_of (map (less_from i) ms) qs) ≡ map (renumbered_row lift k a i) (take b (rows_of ms qs)) =
            ap (take b) (sym (rows_less k a i ms qs)) ∙ sym (map_take (renumbered_row lift k a i) b (rows_of ms qs)) in
            over ∙ low_same k a i (take b (rows_of ms qs)) (rw (← over) low) h

-- What the lists become

-- all but an entry x at the end of the used ones, and the first of them dropped
dropped_shape : (used gone x : ℕ) (O rest l : List ℕ) → l ≡ O ++ (x ∷ rest) → length O ≡ used - 1 → 0 < used → gone ≤ used - 1
    → first_dropped gone (take used l) ++ drop used l ≡ drop gone O ++ (x ∷ (replicate gone 0 ++ rest))
dropped_shape used gone x O rest l e n h g =
    let m : length (O ++ (x ∷ [])) ≡ used = rw (length-append O (x ∷ [])) (omega arith) in
    let split : l ≡ (O ++ (x ∷ [])) ++ rest = e ∙ sym (append_assoc O (x ∷ []) rest) in
    let front : take used l ≡ O ++ (x ∷ []) = rw split (take_at (O ++ (x ∷ [])) rest used m) in
    let back : drop used l ≡ rest = rw split (drop_at (O ++ (x ∷ [])) rest used m) in
    let few : min gone (length (O ++ (x ∷ []))) ≡ gone = omega arith in
    rw (front, back, few, drop-append-le gone O (x ∷ []) (omega arith))
    (append_assoc (drop gone O ++ (x ∷ [])) (replicate gone 0) rest ∙ append_assoc (drop gone O) (x ∷ []) (replicate gone 0 ++ rest))

dropped_long : {at : ℕ} (gone x used : ℕ) (O l : List ℕ) → length O ≡ used - 1 → at < used → used ≤ length l → gone ≤ used - 1
    → length (drop gone O ++ (x ∷ (replicate gone 0 ++ drop used l))) ≡ length l
dropped_long gone x used O l e h g f = simp (length-append, length-drop, length-replicate) (omega arith)

-- the entries between two places exchanged for others
part_shape : (b f x : ℕ) (O rest l y : List ℕ) → l ≡ O ++ (x ∷ rest) → b ≤ f → f ≤ length O
    → take b l ++ (y ++ drop (f - b) (drop b l)) ≡ (take b O ++ (y ++ drop f O)) ++ (x ∷ rest)
part_shape b f x O rest l y e h g =
    let n : b + (f - b) ≡ f = omega arith in
    let front : take b l ≡ take b O = rw e (take-append-le b O (x ∷ rest) (omega arith)) in
    let back : drop (f - b) (drop b l) ≡ drop f O ++ (x ∷ rest) = rw (drop-drop (f - b) b l, n, e) (drop-append-le f O (x ∷ rest) g) in
    rw (front, back)
    (ap (λ (r : List ℕ). take b O ++ r) (sym (append_assoc y (drop f O) (x ∷ rest))) ∙ sym (append_assoc (take b O) (y ++ drop f O) (x ∷ rest)))

part_same : (b f x : ℕ) (O rest l : List ℕ) → l ≡ O ++ (x ∷ rest) → b ≤ f → f ≤ length O → take (f - b) (drop b l) ≡ take (f - b) (drop b O)
part_same b f x O rest l e h g =
    rw (e, drop-append-le b O (x ∷ rest) (omega arith)) (take-append-le (f - b) (drop b O) (x ∷ rest) (rw (length-drop b O) (omega arith)))

-- times sorted with their pages are still a function of them
pub sorted_beside : (from to : ℕ) (ps ts ys zs ps' ts' : List ℕ) → length zs ≡ length ys
    → rows_of ys zs ≡ sort_rows (rows_of (take (to - from) (drop from ps)) (take (to - from) (drop from ts)))
    → ps' ≡ between from to ys ps → ts' ≡ between from to zs ts → SortedBeside from to ps ts ps' ts'
sorted_beside from to ps ts ys zs ps' ts' e rows ep et = record {
  told = λ f beside. let qs = take (to - from) (drop from ps) in
      let all : rows_of ys zs ≡ rows_of (sort_by ltb qs) (map f (sort_by ltb qs)) = rows ∙ rw beside (sort_beside f qs) in
      let n : length (map f (sort_by ltb qs)) ≡ length (sort_by ltb qs) = length-map (sort_by ltb qs) f in
      let y : ys ≡ sort_by ltb qs = sym (numbers_back ys zs e) ∙ ap numbers_of all ∙ numbers_back (sort_by ltb qs) (map f (sort_by ltb qs)) n in
      let z : zs ≡ map f (sort_by ltb qs) = sym (pages_back ys zs e) ∙ ap pages_of all ∙ pages_back (sort_by ltb qs) (map f (sort_by ltb qs)) n in
      (rw (ep, y), rw (et, z));
}

one_less : {m : ℕ} (n : ℕ) → m < n → n - 1 + 1 ≡ n
one_less n h = omega arith

module _ (k a s p t at used : ℕ) (ns ps ts : List ℕ) (R : TimedReady k a s p at used ns ps ts) (h : at < used) where
  page_there : mem p (take used ps) ≡ true
  page_there =
      let n = length-take-le used ps R.filled.fits in
      let e = R.found in
      mem_place p (take used ps) ∙ lt-ltb (place p (take used ps)) (length (take used ps)) (omega arith)

  numbers_fit : used ≤ length ns
  numbers_fit = let f = R.filled.fits in let e = R.filled.even in omega arith

  times_fit : used ≤ length ts
  times_fit = let f = R.filled.fits in let e = R.beside in omega arith

  -- the rows of the other pages, the number of p and its page
  own : (filter (λ row. not (eqb row.page p)) (take used (rows_of ns ps)) ≡ take at (take used (rows_of ns ps)) ++ drop (suc at) (take used (rows_of ns ps)))
      × (number_in (take used (rows_of ns ps)) p ≡ (get_or (take used (rows_of ns ps)) at unused).number) × ((get_or (take used (rows_of ns ps)) at unused).page ≡ p)
  own =
      let pages = used_pages k a s p t at used ns ps ts R in
      rw (R.found, ← pages) (filter_place p (take used (rows_of ns ps)) (rw pages R.once) (rw pages page_there))

  row_there : get_or (take used (rows_of ns ps)) at unused ≡ row_at (get_or ns at 0) (get_or ps at 0)
  row_there = get_or-take used (rows_of ns ps) at unused h ∙ rows_get ns ps at R.filled.even

  number_is : number_in (take used (rows_of ns ps)) p ≡ get_or ns at 0
  number_is = own.1 ∙ rw row_there

  page_is : get_or ps at 0 ≡ p
  page_is = rw row_there at own.2

  pub number_pos : 0 < get_or ns at 0
  number_pos =
      rw (← number_is) (number_some p (take used (rows_of ns ps)) R.filled.above (rw (used_pages k a s p t at used ns ps ts R) page_there))

  rows_out : take at (take used (rows_of ns ps)) ++ drop (suc at) (take used (rows_of ns ps)) ≡ rows_of (others at used ns) (others at used ps)
  rows_out =
      let e = R.filled.even in
      let f = R.filled.fits in
      let ta : length (take at ps) ≡ length (take at ns) = length-take-le at ps (omega arith) ∙ sym (length-take-le at ns (omega arith)) in
      rw (
        take-take at used (rows_of ns ps) (omega arith),
        drop_take (suc at) used (rows_of ns ps) h,
        rows_append (take at ns) (take (used - suc at) (drop (suc at) ns)) (take at ps) (take (used - suc at) (drop (suc at) ps)) ta,
        rows_take ns ps at,
        rows_take (drop (suc at) ns) (drop (suc at) ps) (used - suc at),
        rows_drop ns ps (suc at) e,
      )

  out_sorted : Sorted row_before (rows_of (others at used ns) (others at used ps))
  out_sorted = rw rows_out at (sorted_out at (take used (rows_of ns ps)) R.filled.sorted)

  out_even : length (others at used ps) ≡ length (others at used ns)
  out_even = others_length at used ps h R.filled.fits ∙ sym (others_length at used ns h numbers_fit)

  out_above : count (λ n. eqb n 0) (others at used ns) ≡ 0
  out_above =
      let all = R.filled.above in
      let some : count (λ row. eqb row.number 0) (rows_of (others at used ns) (others at used ps)) ≡ 0 =
      rw (← rows_out) (omega (arith, out_fewer (λ row. eqb row.number 0) at (take used (rows_of ns ps)))) in
      sym (count_rows (λ n. eqb n 0) (others at used ns) (others at used ps) out_even) ∙ some

  rule_lift : rule_in k s p (rows_of ns ps) ≡ lift
  rule_lift = let n = number_pos in sym (rule_used k a s p used ns ps R.filled) ∙ rw (number_is, ne_eqb (get_or ns at 0) 0 (λ e. omega arith))

  after_lift : rows_after k a s p (rows_of ns ps)
      ≡ sort_rows (filter above_zero (rows_of (map (less_from (get_or ns at 0)) (others at used ns)) (others at used ps))) ++ (row_at s p ∷ [])
  after_lift =
      let n = number_pos in
      sym (after_used k a s p used ns ps R.filled)
      ∙ rw (number_is, ne_eqb (get_or ns at 0) 0 (λ e. omega arith), own.0, rows_out, rows_less k a (get_or ns at 0) (others at used ns) (others at used ps))

  -- t0 beside the other pages, and beside p
  out_follows : others at used ts ≡ map (t0_after t p (take used (rows_of ns ps)) ts) (others at used ps)
  out_follows =
      let t0 : ℕ → ℕ = t0_after t p (take used (rows_of ns ps)) ts in
      let all = t0_follows k a s p t at used ns ps ts R in
      rw (
        part_follows t0 used ps ts all at 0 (omega arith),
        part_follows t0 used ps ts all (used - suc at) (suc at) (omega arith),
        map_append t0 (take at ps) (take (used - suc at) (drop (suc at) ps)),
      )

  own_follows : get_or ts at 0 ≡ t0_after t p (take used (rows_of ns ps)) ts p
  own_follows =
      let t0 : ℕ → ℕ = t0_after t p (take used (rows_of ns ps)) ts in
      let f = R.filled.fits in
      get_follows t0 used ps ts (t0_follows k a s p t at used ns ps ts R) at h (omega arith) ∙ ap t0 page_is

  -- the rows X left, and the requested page behind them
  lift_told : (X : List Row) (n : ℕ) (ns' ps' ts' : List ℕ) → rows_after k a s p (rows_of ns ps) ≡ X ++ (row_at s p ∷ []) → length X + 1 ≡ n → n ≤ length ps
      → length ps' ≡ length ps → length ns' ≡ length ps → rows_of ns' ps' ≡ table_of (length ps) (X ++ (row_at s p ∷ []))
      → ts' ≡ map (t0_after t p (take used (rows_of ns ps)) ts) (pages_of X)
      ++ (t0_after t p (take used (rows_of ns ps)) ts p ∷ replicate (length ps - suc (length X)) 0)
      → TimedTo k a s p t used ns ps ts ns' ps' ts' (Ok (record { rule = Lift; s = s; used = n }))
  lift_told X n ns' ps' ts' after m room lp ln rows times =
      let many : length (rows_after k a s p (rows_of ns ps)) ≡ n = rw (after, length-append X (row_at s p ∷ [])) m in
      timed_served k a s p t at used ns ps ts R ns' ps' ts' _ lp ln
      (record {
        full_told = rw many (sym (le-ltb (length ps) n room));
        rule_told = sym rule_lift;
        rows_told = rows ∙ ap (table_of (length ps)) (sym after);
        done_told = record { rule_told = sym rule_lift; top_told = rw rule_lift; used_told = sym many };
      }) s X refl after times

  module _ (ns₁ ps₁ ts₁ : List ℕ) (T : TakenOut at used (get_or ns at 0) s ns ps ts ns₁ ps₁ ts₁) where
    left_length : length (map (less_from (get_or ns at 0)) (others at used ns)) ≡ used - 1
    left_length = length-map (others at used ns) (less_from (get_or ns at 0)) ∙ others_length at used ns h numbers_fit

    counted : take (used - 1) ns₁ ≡ map (less_from (get_or ns at 0)) (others at used ns)
    counted = rw T.numbers_told (take_at (map (less_from (get_or ns at 0)) (others at used ns)) (s ∷ drop used ns) (used - 1) left_length)

    pages_are : ps₁ ≡ others at used ps ++ (p ∷ drop used ps)
    pages_are = T.pages_told ∙ rw page_is

    times_are : ts₁ ≡ map (t0_after t p (take used (rows_of ns ps)) ts) (others at used ps) ++ (t0_after t p (take used (rows_of ns ps)) ts p ∷ drop used ts)
    times_are = T.times_told ∙ rw (out_follows, own_follows)

    lowest_timed : (gone : ℕ) (ms ys zs : List ℕ) → get_or ns at 0 ≡ 1 → gone ≡ count (λ n. leb n 0) (take (used - 1) ns₁)
        → ys ≡ first_dropped gone (take used ps₁) → ms ≡ first_dropped gone (take used ns₁) → zs ≡ first_dropped gone (take used ts₁)
        → TimedTo k a s p t used ns ps ts (ms ++ drop used ns₁) (ys ++ drop used ps₁) (zs ++ drop used ts₁)
        (Ok (record { rule = Lift; s = s; used = used - gone }))
    lowest_timed gone ms ys zs one eg ey em ez =
        let t0 : ℕ → ℕ = t0_after t p (take used (rows_of ns ps)) ts in
        let O = others at used ps in
        let N = map (less_from (get_or ns at 0)) (others at used ns) in
        let X = rows_of (drop gone N) (drop gone O) in
        let fits = R.filled.fits in
        let lo : length O ≡ used - 1 = others_length at used ps h fits in
        let eg' : gone ≡ count (λ n. leb n 0) N = rw counted at eg in
        let few : gone ≤ used - 1 = let c = count_length (λ n. leb n 0) N in let l = left_length in omega arith in
        let rest_even : length (drop gone O) ≡ length (drop gone N) = length-drop gone O ∙ rw (lo, ← left_length) (sym (length-drop gone N)) in
        let lx : length X ≡ used - 1 - gone = rows_length (drop gone N) (drop gone O) rest_even ∙ length-drop gone O ∙ rw lo in
        let numbers : ms ++ drop used ns₁ ≡ drop gone N ++ (s ∷ (replicate gone 0 ++ drop used ns)) =
        rw em (dropped_shape used gone s N (drop used ns) ns₁ T.numbers_told left_length (omega arith) few) in
        let pages : ys ++ drop used ps₁ ≡ drop gone O ++ (p ∷ (replicate gone 0 ++ drop used ps)) =
        rw ey (dropped_shape used gone p O (drop used ps) ps₁ pages_are lo (omega arith) few) in
        let times : zs ++ drop used ts₁ ≡ drop gone (map t0 O) ++ (t0 p ∷ (replicate gone 0 ++ drop used ts)) =
        rw ez (dropped_shape used gone (t0 p) (map t0 O) (drop used ts) ts₁ times_are (length-map O t0 ∙ lo) (omega arith) few) in
        let zeros : gone + (length ps - used) ≡ length ps - suc (length X) = omega arith in
        let after : rows_after k a s p (rows_of ns ps) ≡ X ++ (row_at s p ∷ []) =
        after_lift ∙ ap (λ (l : List Row). l ++ (row_at s p ∷ [])) (lowest_sort k a (get_or ns at 0) (others at used ns) O out_even out_sorted gone one eg') in
        let size : length (X ++ (row_at s p ∷ [])) ≡ suc (length X) = length-append X (row_at s p ∷ []) ∙ omega arith in
        let rows : rows_of (ms ++ drop used ns₁) (ys ++ drop used ps₁) ≡ table_of (length ps) (X ++ (row_at s p ∷ [])) =
        rw (
          numbers,
          pages,
          rows_append (drop gone N) (s ∷ (replicate gone 0 ++ drop used ns)) (drop gone O) (p ∷ (replicate gone 0 ++ drop used ps)) rest_even,
          rows_append (replicate gone 0) (drop used ns) (replicate gone 0) (drop used ps) refl,
          unused_rows gone,
          rows_drop ns ps used R.filled.even,
          R.filled.rest,
          replicate-append-replicate gone (length ps - used) unused,
          zeros,
          size,
        ) (sym (append_assoc X (row_at s p ∷ []) (replicate (length ps - suc (length X)) unused))) in
        let told : zs ++ drop used ts₁ ≡ map t0 (pages_of X) ++ (t0 p ∷ replicate (length ps - suc (length X)) 0) =
        times ∙ rw (← map_drop t0 gone O, pages_back (drop gone N) (drop gone O) rest_even, R.blank, replicate-append-replicate {A = ℕ} gone (length ps - used) 0, zeros) in
        let e = R.filled.even in
        let lp : length (ys ++ drop used ps₁) ≡ length ps = rw (pages, dropped_long gone p used O ps lo h fits few) in
        let ln : length (ms ++ drop used ns₁) ≡ length ps = rw (numbers, dropped_long gone s used N ns left_length h numbers_fit few) (sym e) in
        lift_told X (used - gone) (ms ++ drop used ns₁) (ys ++ drop used ps₁) (zs ++ drop used ts₁) after (omega arith) (omega arith) lp ln rows told

    module _ (from to : ℕ) (high : 2 ≤ get_or ns at 0) (ef : from ≡ count (λ n. leb n (get_or ns at 0 - 2)) (take (used - 1) ns₁))
        (et : to ≡ count (λ n. leb n (get_or ns at 0 - 1)) (take (used - 1) ns₁)) where
      ends : (from ≤ to) × (to ≤ length (others at used ps))
      ends = cuts k a (get_or ns at 0) (others at used ns) (others at used ps) out_even out_sorted from to high (rw counted at ef) (rw counted at et)

      pub ends_fit : (from ≤ to) × (to ≤ length ps)
      ends_fit = let w = ends in let l = others_length at used ps h R.filled.fits in let f = R.filled.fits in (w.0, omega (arith, w.1))

      pub higher_timed : (ps₂ ts₂ : List ℕ) → SortedBeside from to ps₁ ts₁ ps₂ ts₂ → length ps₂ ≡ length ps → length ns₁ ≡ length ps
          → TimedTo k a s p t used ns ps ts ns₁ ps₂ ts₂ (Ok (record { rule = Lift; s = s; used = used }))
      higher_timed ps₂ ts₂ sorted lp ln =
          let t0 : ℕ → ℕ = t0_after t p (take used (rows_of ns ps)) ts in
          let O = others at used ps in
          let N = map (less_from (get_or ns at 0)) (others at used ns) in
          let M = take (to - from) (drop from O) in
          let O' = sorted_between from to O in
          let X = rows_of N O' in
          let w = ends in
          let fits = R.filled.fits in
          let lo : length O ≡ used - 1 = others_length at used ps h fits in
          let lt : length (map t0 O) ≡ length O = length-map O t0 in
          let pages-part : take (to - from) (drop from ps₁) ≡ M = part_same from to p O (drop used ps) ps₁ pages_are w.0 w.1 in
          let times-part : take (to - from) (drop from ts₁) ≡ map t0 M =
          part_same from to (t0 p) (map t0 O) (drop used ts) ts₁ times_are w.0 (rw lt w.1) ∙ rw (← map_drop t0 from O, ← map_take t0 (to - from) (drop from O)) in
          let both = sorted.told t0 (rw pages-part times-part) in
          let pages : ps₂ ≡ O' ++ (p ∷ drop used ps) =
          both.0 ∙ rw pages-part (part_shape from to p O (drop used ps) ps₁ (sort_by ltb M) pages_are w.0 w.1) in
          let times : ts₂ ≡ map t0 O' ++ (t0 p ∷ drop used ts) =
          let part : ts₂ ≡ between from to (map t0 (sort_by ltb M)) ts₁ = both.1 ∙ rw pages-part in
          part
          ∙ part_shape from to (t0 p) (map t0 O) (drop used ts) ts₁ (map t0 (sort_by ltb M)) times_are w.0 (rw lt w.1)
          ∙ rw (← map_take t0 from O, ← map_drop t0 to O, ← map_append t0 (sort_by ltb M) (drop to O), ← map_append t0 (take from O) (sort_by ltb M ++ drop to O)) in
          let sorted_long : length O' ≡ length O =
          rw (length-append (take from O) (sort_by ltb M ++ drop to O), length-append (sort_by ltb M) (drop to O), length_sort ltb M)
          (let l = w.0 in let r = w.1 in simp (length-take, length-drop) (omega arith)) in
          let even : length O' ≡ length N = sorted_long ∙ lo ∙ sym left_length in
          let lx : length X ≡ used - 1 = rows_length N O' even ∙ sorted_long ∙ lo in
          let after : rows_after k a s p (rows_of ns ps) ≡ X ++ (row_at s p ∷ []) =
          after_lift
          ∙ ap (λ (l : List Row). l ++ (row_at s p ∷ []))
          (higher_sort k a (get_or ns at 0) (others at used ns) O out_even out_sorted from to high (rw counted at ef) (rw counted at et) out_above) in
          let size : length (X ++ (row_at s p ∷ [])) ≡ used = rw (length-append X (row_at s p ∷ [])) (omega arith) in
          let rows : rows_of ns₁ ps₂ ≡ table_of (length ps) (X ++ (row_at s p ∷ [])) =
          rw (pages, T.numbers_told, rows_append N (s ∷ drop used ns) O' (p ∷ drop used ps) even, rows_drop ns ps used R.filled.even, R.filled.rest, size)
          (sym (append_assoc X (row_at s p ∷ []) (replicate (length ps - used) unused))) in
          let rest : length ps - used ≡ length ps - suc (length X) = omega arith in
          let beside : ts₂ ≡ map t0 (pages_of X) ++ (t0 p ∷ replicate (length ps - suc (length X)) 0) =
          times ∙ rw (R.blank, rest, pages_back N O' even) in
          lift_told X used ns₁ ps₂ ts₂ after (rw lx (one_less used h)) fits lp ln rows beside

  -- the same where the number is told
  pub lowest_lifted : (ns₁ ps₁ ts₁ : List ℕ) (gone : ℕ) (ms ys zs : List ℕ) → get_or ns at 0 ≡ 1 → TakenOut at used 1 s ns ps ts ns₁ ps₁ ts₁
      → gone ≡ count (λ n. leb n 0) (take (used - 1) ns₁)
      → ys ≡ first_dropped gone (take used ps₁) → ms ≡ first_dropped gone (take used ns₁) → zs ≡ first_dropped gone (take used ts₁)
      → TimedTo k a s p t used ns ps ts (ms ++ drop used ns₁) (ys ++ drop used ps₁) (zs ++ drop used ts₁)
      (Ok (record { rule = Lift; s = s; used = used - gone }))
  lowest_lifted ns₁ ps₁ ts₁ gone ms ys zs one T eg ey em ez = lowest_timed ns₁ ps₁ ts₁ (rw one T) gone ms ys zs one eg ey em ez

-- as many as are counted fit
pub counted_fits : (limit gone used : ℕ) (ns : List ℕ) → gone ≡ count (λ n. leb n limit) (take (used - 1) ns) → gone ≤ used
counted_fits limit gone used ns e = let few = most_few limit ns (used - 1) gone e in omega arith
