-- The questions: reading the sizes, and that what is read is what the definitions say.
use Prim.Native.Nat.{ℕ, zero, suc, ◌+◌, ◌-◌, ◌≤◌, ◌<◌}
use native.Mathlib.Numerals.{add-one}
use native.Mathlib.Omega.{arith}
use mathlib.Core.Bool.{Bool, true, false, not}
use mathlib.Core.List.{List, [], ◌∷◌, map}
use mathlib.Core.Path.{◌≡◌, refl, sym, ◌∙◌}
use Rattle.std.specs.Prelude.{Ok}
use lib.Dec.{eqb, leb, ltb, leb-suc-suc}
use lib.ListN.{length, get_or, length-map}
use borrow.Author.Tests.{eq-eqb, ne_eqb, lt-ltb, le-ltb, eqb-true}
use Rattle.lists.specs.Pages.{count, bit, distinct}
use Rattle.lists.specs.Sorting.{Row}
use Rattle.lists.proofs.Choice.{tests, cases, bit_false}
use Rattle.lists.proofs.Pages.{count_sum, count_ext, count_length}
use Rattle.paging.specs.Layers.{up_to, BreaksFirstAt}
use Rattle.paging.specs.Refusals.{refuse}
use Rattle.paging.specs.Rows.{rows_of, used_rows}
use Rattle.paging.specs.Table.{number_in, size_of, revealed}
use Rattle.paging.proofs.Possible.{holds_of, holds_not, first_is_lowest}
use Rattle.paging.proofs.Table.{number_in_above_zero}
use Rattle.layers.specs.Calls.{state_refusal}
use Rattle.layers.specs.Formed.{none_above}
use Rattle.layers.specs.Questions.{RevealedAnswer, revealed_reply, RevealedTold, layers_in, refused_with, count_differs, verdict_of, possible_refusal, verdict}
use Rattle.layers.specs.declared.LayersRun.{LayersRun}
use Rattle.layers.specs.declared.PossibleAnswer.{PossibleAnswer}
use Rattle.layers.specs.declared.PossibleAnswer.TheVariants.{Yes, CountDiffers, BrokenAt}
use Rattle.layers.specs.inner.Sizes.{Tallied, numbered, sum_below, times_in, Walked}
use Rattle.layers.proofs.Order.{ordered_sorted, revealed_last}
use Rattle.layers.proofs.Refusing.{StateReady, state_pass, state_fall, sound}
use Rattle.layers.proofs.WellFormed.{facts, well_table, size_times, size_numbered}

-- Revealed pages: the layers from s down

pub revealed_more : (i : ℕ) (ns : List ℕ) → 0 < i → times_in i ns ≡ 1 → revealed i (numbered ns) ≡ revealed (i - 1) (numbered ns) + 1
revealed_more zero ns h e = absurd (omega arith)
revealed_more (suc i) ns h e =
    let back : suc i - 1 ≡ i = omega arith in
    rw back (rw (eq-eqb (size_of (suc i) (numbered ns)) 1 (size_numbered ns (suc i) ∙ e)) (omega arith))

pub revealed_stop : (i : ℕ) (ns : List ℕ) → 0 < i → (times_in i ns ≡ 1 → ⊥) → revealed i (numbered ns) ≡ 0
revealed_stop zero ns h e = absurd (omega arith)
revealed_stop (suc i) ns h e = rw (ne_eqb (size_of (suc i) (numbered ns)) 1 (λ z. e (sym (size_numbered ns (suc i)) ∙ z)))

pub ruleset revealed_rules = (revealed_more, revealed_stop)

-- only layers above 0 count
size_used : (i : ℕ) (rows : List Row) → size_of (suc i) (used_rows rows) ≡ size_of (suc i) rows
size_used i [] = refl
size_used i (x ∷ xs) =
    cases (ltb 0 x.number)
    (λ u. rw u (omega (arith, size_used i xs)))
    (λ u. rw u (omega (arith, size_used i xs, bit_false (eqb x.number (suc i)) (ne_eqb x.number (suc i) (λ e. omega tests)))))

revealed_same : (rows rows' : List Row) → ((i : ℕ) → size_of (suc i) rows ≡ size_of (suc i) rows') → (s : ℕ) → revealed s rows ≡ revealed s rows'
revealed_same rows rows' same zero = refl
revealed_same rows rows' same (suc i) = rw (same i, revealed_same rows rows' same i)

above_used : (s : ℕ) (rows : List Row) → none_above s rows ≡ true → none_above s (used_rows rows) ≡ true
above_used s rows n = eq-eqb (count (λ row. ltb s row.number) (used_rows rows)) 0 (let z = eqb-true (count (λ row. ltb s row.number) rows) 0 n in omega (arith, fewer rows))
  where
    fewer : (xs : List Row) → count (λ row. ltb s row.number) (used_rows xs) ≤ count (λ row. ltb s row.number) xs
    fewer [] = omega arith
    fewer (x ∷ xs) = cases (ltb 0 x.number) (λ u. rw u (omega (arith, fewer xs))) (λ u. rw u (omega (arith, fewer xs)))

pub revealed_used : (ns ps : List ℕ) (s : ℕ) → length ps ≡ length ns → revealed s (numbered ns) ≡ revealed s (used_rows (rows_of ns ps))
revealed_used ns ps s e =
    revealed_same (numbered ns) (used_rows (rows_of ns ps))
    (λ i. size_numbered ns (suc i) ∙ sym (size_times ns ps (suc i) e) ∙ sym (size_used i (rows_of ns ps))) s

-- the answer
pub revealed_refused : (run : LayersRun) (pages numbers : List ℕ) (number : ℕ) → number ≡ state_refusal run pages numbers 0 → (number ≡ 0 → ⊥)
    → ◌≡◌ {A = RevealedAnswer} (record { refusal = number; count = 0 }) (revealed_reply run pages numbers)
unfolding revealed_reply
revealed_refused run pages numbers number e n = rw (← e, ne_eqb number 0 n)

pub revealed_told : (run : LayersRun) (pages numbers : List ℕ) (c : ℕ) → StateReady run pages numbers → c ≡ revealed run.s (numbered numbers)
    → RevealedTold run pages numbers (Ok c)
unfolding revealed_reply
revealed_told run pages numbers c r told =
    let rows = rows_of numbers pages in
    let f = facts run rows (well_table run rows r.formed) in
    let e : c ≡ revealed run.s (used_rows rows) = told ∙ revealed_used numbers pages run.s r.even in
    record {
      reply = rw (state_pass run pages numbers r 0, e);
      places = rw e (revealed_last run.s (used_rows rows) (ordered_sorted rows f.in_order) (above_used run.s rows f.none_higher));
    }

pub s_most : (run : LayersRun) (pages numbers : List ℕ) → StateReady run pages numbers → run.s ≤ 256
s_most run pages numbers r = let low = sound run pages numbers r in let a = low.s_high in let b = low.sizes.k_high in omega arith

-- Possible sets: the numbers of the set's pages

pub map_get : (f : ℕ → ℕ) (xs : List ℕ) (i : ℕ) → i < length xs → get_or (map f xs) i 0 ≡ f (get_or xs i 0)
map_get f [] i h = absurd (omega arith)
map_get f (x ∷ xs) zero h = refl
map_get f (x ∷ xs) (suc i) h = map_get f xs i (omega arith)

pub map_in : (f : ℕ → ℕ) (xs : List ℕ) (i : ℕ) → i < length xs → i < length (map f xs)
map_in f xs i h = omega (arith, length-map xs f)

pub map_past : (f : ℕ → ℕ) (xs : List ℕ) (i : ℕ) → length xs ≤ i → length (map f xs) ≤ i
map_past f xs i h = omega (arith, length-map xs f)

count_map : (f : ℕ → ℕ) (g : ℕ → Bool) (xs : List ℕ) → count g (map f xs) ≡ count (λ x. g (f x)) xs
count_map f g [] = refl
count_map f g (x ∷ xs) = omega (arith, count_map f g xs)

-- each size is at most the set's length
pub tally_most : (f : ℕ → ℕ) (set sizes : List ℕ) (m : ℕ) → Tallied (map f set) sizes → length set ≤ m → (j : ℕ) → j < 257 → get_or sizes j 0 ≤ m
tally_most f set sizes m t h j g = omega (arith, t.each j g, count_length (λ n. eqb n j) (map f set), length-map set f)

-- The walk over the sizes

pub walk_next : (sizes : List ℕ) (i total at : ℕ) → at ≡ i → total ≡ sum_below i sizes → ((j : ℕ) → j < i → sum_below (suc j) sizes ≤ j) → total + get_or sizes at 0 ≤ at
    → (total + get_or sizes at 0 ≡ sum_below (i + 1) sizes) × ((j : ℕ) → j < i + 1 → sum_below (suc j) sizes ≤ j)
walk_next sizes i total at e was low h =
    let sum : total + get_or sizes at 0 ≡ sum_below (suc i) sizes = rw (e, was) in (
      rw (add-one i) sum,
      λ j g. cases (eqb j i)
          (λ q. rw (eqb-true j i q) (omega arith))
          (λ q. low j (omega tests)),
    )

pub walk_broken : (s : ℕ) (sizes : List ℕ) (i total at : ℕ) → at ≡ i → i ≤ s → total ≡ sum_below i sizes
    → ((j : ℕ) → j < i → sum_below (suc j) sizes ≤ j) → at < total + get_or sizes at 0
    → Walked s sizes (BrokenAt i)
walk_broken s sizes i total at e l was low h =
    let sum : total + get_or sizes at 0 ≡ sum_below (suc i) sizes = rw (e, was) in
    (l, omega arith, low)

pub walk_end : (s : ℕ) (sizes : List ℕ) (i : ℕ) → s < i → ((j : ℕ) → j < i → sum_below (suc j) sizes ≤ j) → Walked s sizes Yes
walk_end s sizes i h low = λ j g. low j (omega arith)

-- the sums are the definition's counts
sum_is : (ns sizes : List ℕ) → Tallied ns sizes → (i : ℕ) → i ≤ 257 → sum_below i sizes ≡ count (λ n. ltb n i) ns
sum_is ns sizes t zero h = sym (none ns)
  where
    none : (ms : List ℕ) → count (λ n. ltb n 0) ms ≡ 0
    none [] = refl
    none (m ∷ ms) = omega (arith, none ms, bit_false (ltb m 0) (le-ltb m 0 (omega arith)))
sum_is ns sizes t (suc i) h =
    let more = count_sum (λ n. ltb n (suc i)) (λ n. ltb n i) (λ n. eqb n i) ns (λ n. one n) in
    omega (arith, sum_is ns sizes t i (omega arith), t.each i (omega arith))
  where
    one : (n : ℕ) → bit (ltb n (suc i)) ≡ bit (ltb n i) + bit (eqb n i)
    one n = cases (eqb n i)
        (λ e. rw (e, lt-ltb n (suc i) (omega tests), le-ltb n i (omega tests)))
        (λ e. cases (ltb n i)
        (λ f. rw (e, f, lt-ltb n (suc i) (omega tests)))
        (λ f. rw (e, f, le-ltb n (suc i) (omega tests))))

module _ (run : LayersRun) (rows : List Row) (set sizes : List ℕ) (t : Tallied (map (number_in rows) set) sizes) where
  upto_is : (i : ℕ) → i ≤ 256 → up_to (layers_in run rows) i set ≡ sum_below (suc i) sizes
  upto_is i h =
      count_ext (λ q. leb (number_in (used_rows rows) q) i) (λ q. leb (number_in rows q) i) set (λ q. rw (number_in_above_zero rows q))
      ∙ sym (count_map (number_in rows) (λ n. leb n i) set)
      ∙ count_ext (λ n. leb n i) (λ n. ltb n (suc i)) (map (number_in rows) set) (λ n. sym (leb-suc-suc n i))
      ∙ sym (sum_is (map (number_in rows) set) sizes t (suc i) (omega arith))

-- The answers of the question on a set

pub possible_refused : (run : LayersRun) (pages numbers set : List ℕ) (number : ℕ) → number ≡ state_refusal run pages numbers 0 → (number ≡ 0 → ⊥)
    → refused_with number ≡ verdict run pages numbers set
unfolding verdict possible_refusal
possible_refused run pages numbers set number e n = rw (state_fall run pages numbers number e n (refuse (not (distinct set)) 11 0), ne_eqb number 0 n)

module _ (run : LayersRun) (pages numbers set : List ℕ) (r : StateReady run pages numbers) where
  pub possible_twice : distinct set ≡ false → refused_with 11 ≡ verdict run pages numbers set
  unfolding verdict possible_refusal
  possible_twice e = rw (state_pass run pages numbers r (refuse (not (distinct set)) 11 0), e)

  module _ (e : distinct set ≡ true) where
    taken : possible_refusal run pages numbers set ≡ 0
    unfolding possible_refusal
    taken = rw (state_pass run pages numbers r (refuse (not (distinct set)) 11 0), e)

    pub possible_differs : (length set ≡ run.s → ⊥) → count_differs ≡ verdict run pages numbers set
    unfolding verdict
    possible_differs n = rw (taken, ne_eqb (length set) run.s n)

    pub possible_walked : (sizes : List ℕ) (answer : PossibleAnswer) → length set ≡ run.s → run.s ≤ 256 → Tallied (map (number_in (rows_of numbers pages)) set) sizes
        → Walked run.s sizes answer → verdict_of (Ok answer) ≡ verdict run pages numbers set
    unfolding verdict
    possible_walked sizes Yes l h t w =
        let L = layers_in run (rows_of numbers pages) in
        let all = holds_of L set run.s (λ j g. let low = w j g in omega (arith, upto_is run (rows_of numbers pages) set sizes t j (omega arith))) in
        rw (taken, eq-eqb (length set) run.s l, all)
    possible_walked sizes (BrokenAt i) l h t w =
        let L = layers_in run (rows_of numbers pages) in
        let low = w.0 in
        let more : i < up_to L i set = let high = w.1 in omega (arith, upto_is run (rows_of numbers pages) set sizes t i (omega arith)) in
        let first : BreaksFirstAt L set i = record {
          breaks = lt-ltb i _ more;
          none_lower = λ j g. let most = w.2 j g in le-ltb j _ (omega (arith, upto_is run (rows_of numbers pages) set sizes t j (omega arith)));
        } in
        rw (taken, eq-eqb (length set) run.s l, holds_not L set run.s i low more, first_is_lowest L set run.s i low first)
    possible_walked sizes CountDiffers l h t w = absurd w
