-- A table that is all unused: the look at its places, and the refusals that are judged before the first request of a trace.
use Prim.Native.Nat.{ℕ, zero, suc, ◌+◌, ◌≤◌, ◌<◌}
use native.Mathlib.Numerals.{add-one}
use native.Mathlib.Omega.{arith}
use mathlib.Core.Bool.{Bool, true, false, not, ◌||◌}
use mathlib.Core.List.{List, [], ◌∷◌}
use mathlib.Core.Path.{◌≡◌, refl, sym, ap, ◌∙◌}
use lib.Dec.{eqb}
use lib.ListN.{length, drop, get_or, replicate, length-replicate, drop_of_length-le}
use lib.Seq.{drop-cons}
use borrow.Author.Tests.{eqb-true, eq-eqb, ne_eqb, not-false}
use Rattle.std.proofs.Common.{Option, Some, None, is_none, Ok, Err}
use Rattle.lists.specs.Choice.{◌and◌, ◌or◌}
use Rattle.lists.proofs.Choice.{and_i, and_l, and_r, or_l, or_r, or_none, or_none_l, or_none_r}
use Rattle.paging.specs.Refusals.{refuse, trace_refusal, SizesRight, longest_trace}
use Rattle.paging.proofs.Refusals.{zero_pass, Chain, chain_end, chain_refuse, chain_behind, chain_fall, trace_chain, trace_right, trace_fall, trace_pass, trace_taken}
use Rattle.paging.specs.Numbers.{number_of}
use Rattle.paging.specs.Table.{nothing_yet}
use Rattle.paging.specs.declared.reasons.Refusal.{Refusal}
use Rattle.paging.specs.declared.reasons.Refusal.TheVariants.{TableFull}
use Rattle.layers.specs.Traces.{overflows}
use Rattle.layers.proofs.Steps.{no_overflow}
use Rattle.marking.specs.Marking.{mark_bundles, mark_loads}
use Rattle.marking.specs.Rdm.{rdm}
use Rattle.mark.specs.Traces.{Table, table_with, all_zero, early_refusal, over_refusal, totals_of, table_over, OverTrace}
use Rattle.paging.specs.declared.outcomes.Totals.{Totals}
use Rattle.mark.specs.inner.Over.{TraceReady, AllServed, ServedOver}
use Rattle.paging.proofs.Numbers.{number_above}

-- The look

pub zero_start : (xs : List ℕ) → all_zero xs ≡ not false and all_zero (drop 0 xs)
unfolding ◌and◌
zero_start xs = refl

pub zero_turn : (i : ℕ) (used : Bool) (xs : List ℕ) → i < length xs → all_zero xs ≡ not used and all_zero (drop i xs)
    → all_zero xs ≡ not (used || not (eqb (get_or xs i 0) 0)) and all_zero (drop (i + 1) xs)
unfolding ◌and◌
zero_turn i used xs h told =
    told ∙ rw (drop-cons xs i 0 h, add-one i) (here used (eqb (get_or xs i 0) 0))
  where
    here : (used b : Bool) → (not used and (b and all_zero (drop (suc i) xs))) ≡ not (used || not b) and all_zero (drop (suc i) xs)
    here true b = refl
    here false true = refl
    here false false = refl

pub zero_end : (i : ℕ) (used : Bool) (xs : List ℕ) → length xs ≤ i → all_zero xs ≡ not used and all_zero (drop i xs) → not used ≡ all_zero xs
unfolding ◌and◌
zero_end i true xs h told = sym told
zero_end i false xs h told = let none : drop i xs ≡ [] = drop_of_length-le xs h in sym (told ∙ rw none refl)

pub all_zeros : (xs : List ℕ) → all_zero xs ≡ true → xs ≡ replicate (length xs) 0
all_zeros [] w = refl
all_zeros (x ∷ xs) w =
    let here : x ≡ 0 = eqb-true x 0 (and_l _ _ w) in rw here (ap (λ (l : List ℕ). 0 ∷ l) (all_zeros xs (and_r _ _ w)))

-- What is known where nothing is refused before the first request

pub record Begun (k a : ℕ) (trace : List ℕ) (x : Table) : Type 0 where
  pub sizes : SizesRight k a
  pub short : length trace ≤ longest_trace
  pub numbers_even : length x.numbers ≡ length x.pages
  pub times_even : length x.times ≡ length x.pages
  pub pages_zero : all_zero x.pages ≡ true
  pub numbers_zero : all_zero x.numbers ≡ true
  pub times_zero : all_zero x.times ≡ true

module _ (k a : ℕ) (trace : List ℕ) (x : Table) where
  uneven : Bool
  uneven = not (eqb (length x.numbers) (length x.pages)) or not (eqb (length x.times) (length x.pages))

  in_use : Bool
  in_use = not (all_zero x.pages and all_zero x.numbers and all_zero x.times)

  pub early_chain : Chain (early_refusal k a trace x)
  unfolding early_refusal uneven in_use
  early_chain =
      chain_behind (trace_refusal k a trace) (λ rest. refuse uneven 8 (refuse in_use 9 rest)) (trace_chain k a trace)
      (chain_refuse uneven 8 (λ rest. refuse in_use 9 rest) (λ z. omega arith) (chain_refuse in_use 9 (λ rest. rest) (λ z. omega arith) chain_end))

  pub begins : (rest : ℕ) → early_refusal k a trace x rest ≡ 0 → Begun k a trace x × (rest ≡ 0)
  unfolding early_refusal uneven in_use
  begins rest e =
      let first = trace_right k a trace _ e in
      let second = zero_pass uneven 8 _ (λ z. omega arith) first.2 in
      let third = zero_pass in_use 9 rest (λ z. omega arith) second.1 in
      let zeros = not-false _ third.0 in (
        record {
          sizes = first.0;
          short = first.1;
          numbers_even = eqb-true _ _ (not-false _ (or_none_l _ _ second.0));
          times_even = eqb-true _ _ (not-false _ (or_none_r _ _ second.0));
          pages_zero = and_l _ _ zeros;
          numbers_zero = and_l _ _ (and_r _ _ zeros);
          times_zero = and_r _ _ (and_r _ _ zeros);
        },
        third.1,
      )

  pub begun : Begun k a trace x → (rest : ℕ) → early_refusal k a trace x rest ≡ rest
  unfolding early_refusal
  begun B rest =
      let even = or_none _ _ (ap not (eq-eqb _ _ B.numbers_even)) (ap not (eq-eqb _ _ B.times_even)) in
      let zeros = and_i _ _ B.pages_zero (and_i _ _ B.numbers_zero B.times_zero) in
      trace_taken k a trace B.sizes B.short _ ∙ rw (even, zeros) refl

  -- as the code judges

  pub early_trace : (number : ℕ) → number ≡ trace_refusal k a trace 0 → (number ≡ 0 → ⊥) → number ≡ early_refusal k a trace x 0
  unfolding early_refusal
  early_trace number e n = sym (trace_fall k a trace _ number e n)

  module _ (z : 0 ≡ trace_refusal k a trace 0) where
    pub early_numbers : (length x.numbers ≡ length x.pages → ⊥) → 8 ≡ early_refusal k a trace x 0
    unfolding early_refusal
    early_numbers n =
        let odd = or_l (not (eqb (length x.numbers) (length x.pages))) (not (eqb (length x.times) (length x.pages))) (ap not (ne_eqb _ _ n)) in
        sym (trace_pass k a trace _ (sym z) ∙ rw odd refl)

    pub early_times : (length x.times ≡ length x.pages → ⊥) → 8 ≡ early_refusal k a trace x 0
    unfolding early_refusal
    early_times n =
        let odd = or_r (not (eqb (length x.numbers) (length x.pages))) (not (eqb (length x.times) (length x.pages))) (ap not (ne_eqb _ _ n)) in
        sym (trace_pass k a trace _ (sym z) ∙ rw odd refl)

    module _ (en : length x.numbers ≡ length x.pages) (et : length x.times ≡ length x.pages) where
      pub early_used : (all_zero x.pages and all_zero x.numbers and all_zero x.times) ≡ false → 9 ≡ early_refusal k a trace x 0
      unfolding early_refusal
      early_used f =
          let even = or_none _ _ (ap not (eq-eqb _ _ en)) (ap not (eq-eqb _ _ et)) in
          sym (trace_pass k a trace _ (sym z) ∙ rw (even, f) refl)

      pub early_none : all_zero x.pages ≡ true → all_zero x.numbers ≡ true → all_zero x.times ≡ true → 0 ≡ early_refusal k a trace x 0
      unfolding early_refusal
      early_none p n t =
          let even = or_none _ _ (ap not (eq-eqb _ _ en)) (ap not (eq-eqb _ _ et)) in
          let zeros = and_i _ _ p (and_i _ _ n t) in
          sym (trace_pass k a trace _ (sym z) ∙ rw (even, zeros) refl)

-- What the call answers and leaves

module _ (k a : ℕ) (trace : List ℕ) (x : Table) where
  pub refused_over : (reason : Refusal) → over_refusal k a trace x ≡ number_of reason → OverTrace k a trace x (Err reason) x
  unfolding totals_of table_over
  refused_over reason e = (rw (e, ne_eqb (number_of reason) 0 (number_above reason)) refl, rw (e, ne_eqb (number_of reason) 0 (number_above reason)) refl)

  pub early_over : (number : ℕ) → number ≡ early_refusal k a trace x 0 → (number ≡ 0 → ⊥) → over_refusal k a trace x ≡ number
  early_over number e n = chain_fall (early_refusal k a trace x) (early_chain k a trace x) _ number e n

  pub early_reason : (reason : Refusal) → number_of reason ≡ early_refusal k a trace x 0 → OverTrace k a trace x (Err reason) x
  early_reason reason e = refused_over reason (early_over (number_of reason) e (number_above reason))

  module _ (z : 0 ≡ early_refusal k a trace x 0) where
    pub trace_ready : TraceReady k a trace x
    trace_ready =
        record {
          sizes = (begins k a trace x 0 (sym z)).0.sizes;
          short = (begins k a trace x 0 (sym z)).0.short;
          blank_pages = all_zeros x.pages (begins k a trace x 0 (sym z)).0.pages_zero;
          blank_numbers = all_zeros x.numbers (begins k a trace x 0 (sym z)).0.numbers_zero
              ∙ ap (λ (n : ℕ). replicate n 0) (begins k a trace x 0 (sym z)).0.numbers_even;
          blank_times = all_zeros x.times (begins k a trace x 0 (sym z)).0.times_zero
              ∙ ap (λ (n : ℕ). replicate n 0) (begins k a trace x 0 (sym z)).0.times_even;
        }

    module _ (left : Table) (r : Option Totals) (told : ServedOver k a trace x left r) where
      refusal_is : over_refusal k a trace x ≡ refuse (is_none r) 10 0
      refusal_is =
          begun k a trace x (begins k a trace x 0 (sym z)).0 _ ∙ ap (λ (b : Bool). refuse b 10 0) (sym told.full_told)

    -- the lists were zeros, and are again
    pub over_full : (left : Table) (pages numbers times : List ℕ) (m n l : ℕ) → ServedOver k a trace x left None
        → m ≡ length x.pages → n ≡ length x.numbers → l ≡ length x.times → pages ≡ replicate m 0 → numbers ≡ replicate n 0 → times ≡ replicate l 0
        → OverTrace k a trace x (Err TableFull) (table_with pages numbers times)
    over_full left pages numbers times m n l told em en el ep eq et =
        let B = (begins k a trace x 0 (sym z)).0 in
        let zeros : (xs ys : List ℕ) (d : ℕ) → all_zero xs ≡ true → d ≡ length xs → ys ≡ replicate d 0 → ys ≡ xs =
        λ xs ys d w h g. g ∙ ap (λ (c : ℕ). replicate c 0) h ∙ sym (all_zeros xs w) in
        let same : table_with pages numbers times ≡ x =
        λ i. table_with (zeros x.pages pages m B.pages_zero em ep i) (zeros x.numbers numbers n B.numbers_zero en eq i)
        (zeros x.times times l B.times_zero el et i) in
        let t = refused_over TableFull (refusal_is left None told) in
        (t.0, same ∙ t.1)

    pub over_done : (left : Table) (totals : Totals) → ServedOver k a trace x left (Some totals) → OverTrace k a trace x (Ok totals) left
    unfolding totals_of table_over
    over_done left totals told =
        let none : over_refusal k a trace x ≡ 0 = refusal_is left (Some totals) told in
        let done : AllServed k a trace x left totals = told.done_told in
        (rw (none, done.bundles_told, done.loads_told) refl, done.table_told ∙ rw none refl)

-- A trace that is not too long, on a table of zeros with a place for each request, is not refused

zeros_zero : (n : ℕ) → all_zero (replicate n 0) ≡ true
unfolding ◌and◌
zeros_zero zero = refl
zeros_zero (suc n) = zeros_zero n

pub trace_marked : (k a : ℕ) (trace : List ℕ) (places : ℕ) → SizesRight k a → length trace ≤ 65536 → length trace ≤ places
    → totals_of k a trace (table_with (replicate places 0) (replicate places 0) (replicate places 0))
    ≡ record { refusal = 0; bundles = mark_bundles (rdm k a) k a trace; loads = mark_loads (rdm k a) k a trace }
unfolding totals_of
trace_marked k a trace places right short h =
    let x = table_with (replicate places 0) (replicate places 0) (replicate places 0) in
    let size : length (replicate {A = ℕ} places 0) ≡ places = length-replicate places 0 in
    let fits : overflows k a (length (replicate {A = ℕ} places 0)) trace nothing_yet ≡ false = rw size (no_overflow k a places trace h) in
    let none : over_refusal k a trace x ≡ 0 =
    begun k a trace x (record {
      sizes = right;
      short = short;
      numbers_even = refl;
      times_even = refl;
      pages_zero = zeros_zero places;
      numbers_zero = zeros_zero places;
      times_zero = zeros_zero places;
    }) _ ∙ rw fits refl in
    rw none refl
