-- Calls one after the other: the record and the table that stand for a trace, from the empty state on. An accepted request leads to what
-- stands for the longer trace, no such state is refused as ill formed, and a question is answered by the layers of the trace as a map.
use Prim.Native.Nat.{ℕ, zero, suc, ◌+◌, ◌-◌, ◌≤◌}
use native.Mathlib.Omega.{arith}
use mathlib.Core.Bool.{Bool, true, false, not}
use mathlib.Core.List.{List, [], ◌∷◌, ◌++◌}
use mathlib.Core.Logic.{◌↔◌}
use mathlib.Core.Path.{◌≡◌, refl, sym, ap, subst, ◌∙◌}
use Rattle.std.specs.Prelude.{Result, Ok}
use Rattle.paging.specs.Numbers.{rule_number}
use Rattle.paging.specs.declared.reasons.Refusal.{Refusal}
use lib.Dec.{eqb, ltb}
use lib.ListN.{length, replicate, length-append, length-replicate}
use borrow.Author.Tests.{eq-eqb, ne_eqb, le-ltb, ltb-false}
use Rattle.lists.specs.Choice.{◌and◌}
use Rattle.lists.specs.Pages.{bit, count, distinct}
use Rattle.lists.specs.Sorting.{Row}
use Rattle.lists.proofs.Choice.{tests, cases, and_i, or_none, or_none_l, or_none_r}
use Rattle.lists.proofs.Pages.{count_snoc}
use Rattle.paging.specs.Layers.{LayerRule, no_layers, is_append, is_join, is_lift, layer_rule, top_after, layers_after, layer_rules, join_count, possible, BreaksFirstAt}
use Rattle.paging.specs.Refusals.{refuse, SizesRight}
use Rattle.paging.specs.Rows.{rows_of, numbers_of, pages_of, unused, used_rows, table_of}
use Rattle.paging.specs.Table.{number_in, revealed, Tabled, nothing_yet, tabled_next, tabled_after}
use Rattle.paging.proofs.Forming.{FormedRows, no_rows_formed, request_forms, one_row_more, used_table}
use Rattle.paging.proofs.Refusals.{zero_pass, sizes_taken, trace_right, trace_taken}
use Rattle.paging.proofs.Rows.{pages_length, rows_back}
use Rattle.paging.proofs.Rules.{layers_snoc, rules_length, rules_snoc, rules_add_up}
use Rattle.paging.proofs.Table.{tabled_map, tabled_top, tabled_joins, tabled_snoc}
use Rattle.layers.specs.Calls.{empty_run, state_refusal, rows_next, rule_next, reply_next, request_refusal, request_reply, table_next, pages_next, numbers_next}
use Rattle.layers.specs.Formed.{layers_well_formed, is_unused}
use Rattle.layers.specs.Questions.{layers_in, verdict_of, judged, possible_refusal, verdict}
use Rattle.layers.specs.Traces.{overflows, all_unused, trace_totals, pages_over, numbers_over, over_refusal, early_refusal}
use Rattle.layers.specs.declared.LayersRun.{LayersRun}
use Rattle.layers.specs.declared.PossibleAnswer.{PossibleAnswer}
use Rattle.layers.specs.declared.PossibleAnswer.TheVariants.{Yes, BrokenAt}
use Rattle.layers.proofs.Forming.{formed_table}
use Rattle.layers.proofs.LowestLayer.{yes_is_possible, broken_is_first, named_taken}
use Rattle.layers.proofs.WellFormed.{well_both}

-- Rows along a trace

formed_from : (k a : ℕ) → 1 ≤ a → a ≤ k → (trace : List ℕ) (T : Tabled) → FormedRows k a T.s T.rows
    → FormedRows k a (tabled_after k a trace T).s (tabled_after k a trace T).rows
formed_from k a pos le [] T F = F
formed_from k a pos le (p ∷ ps) T F =
    formed_from k a pos le ps (tabled_next k a p T) (request_forms k a T.s p T.rows pos le F)

-- after every trace the rows are as document 01 asks
pub tabled_formed : (k a : ℕ) → 1 ≤ a → a ≤ k → (trace : List ℕ) → FormedRows k a (tabled_after k a trace nothing_yet).s (tabled_after k a trace nothing_yet).rows
tabled_formed k a pos le trace = formed_from k a pos le trace nothing_yet (no_rows_formed k a)

fits_from : (k a places : ℕ) (trace : List ℕ) (T : Tabled) → length T.rows + length trace ≤ places → overflows k a places trace T ≡ false
fits_from k a places [] T h = refl
fits_from k a places (p ∷ ps) T h =
    let more = one_row_more k a T.s p T.rows in
    or_none _ _ (le-ltb places (length (tabled_next k a p T).rows) (omega arith)) (fits_from k a places ps (tabled_next k a p T) (omega arith))

-- a table with a place for each request does not overflow
pub no_overflow : (k a places : ℕ) (trace : List ℕ) → length trace ≤ places → overflows k a places trace nothing_yet ≡ false
no_overflow k a places trace h = fits_from k a places trace nothing_yet (omega arith)

-- The state that stands for a trace

-- the rule for a page behind the trace
abbrev pub rule_after : (k a : ℕ) (trace : List ℕ) (p : ℕ) → LayerRule
rule_after k a trace p = layer_rule k ((layers_after k a trace no_layers).of p) (layers_after k a trace no_layers).top

abbrev pub run_after : (k a : ℕ) (trace : List ℕ) → LayersRun
run_after k a trace = record {
  k = k;
  a = a;
  requests = length trace;
  evictions = join_count k a trace;
  s = (layers_after k a trace no_layers).top;
  appends = count is_append (layer_rules k a trace no_layers);
  joins = count is_join (layer_rules k a trace no_layers);
  lifts = count is_lift (layer_rules k a trace no_layers);
}

pub record Stands (k a : ℕ) (trace : List ℕ) (run : LayersRun) (pages numbers : List ℕ) : Type 0 where
  pub sizes : SizesRight k a
  pub run_is : run ≡ run_after k a trace
  pub one_length : length pages ≡ length numbers
  pub table_is : rows_of numbers pages ≡ table_of (length pages) (tabled_after k a trace nothing_yet).rows
  pub room : length (tabled_after k a trace nothing_yet).rows ≤ length pages
  pub well : layers_well_formed run (rows_of numbers pages) ≡ true

after_well : (k a : ℕ) → 1 ≤ a → a ≤ k → (trace : List ℕ) (places : ℕ)
    → layers_well_formed (run_after k a trace) (table_of places (tabled_after k a trace nothing_yet).rows) ≡ true
after_well k a pos le trace places =
    let rules = layer_rules k a trace no_layers in
    let sum : count is_append rules + count is_join rules + count is_lift rules ≡ length trace = rules_add_up rules ∙ rules_length k a trace no_layers in
    well_both (run_after k a trace) (table_of places (tabled_after k a trace nothing_yet).rows)
    (record { sum = sum; bundles = refl })
    (formed_table (run_after k a trace) places (tabled_after k a trace nothing_yet).rows
    (subst (λ s. FormedRows k a s (tabled_after k a trace nothing_yet).rows) (tabled_top k a trace) (tabled_formed k a pos le trace))
    (omega arith))

length_numbers : (rows : List Row) → length (numbers_of rows) ≡ length rows
length_numbers [] = refl
length_numbers (row ∷ rows) = ap suc (length_numbers rows)

length_table : (places : ℕ) (rows : List Row) → length rows ≤ places → length (table_of places rows) ≡ places
length_table places rows h =
    omega (arith, length-append rows (replicate (places - length rows) unused), length-replicate (places - length rows) unused)

-- a table that is filled with the rows of a trace stands for it, with the record of the trace
pub table_stands : (k a : ℕ) → 1 ≤ a → a ≤ k → k ≤ 256 → (trace : List ℕ) (places : ℕ) → length (tabled_after k a trace nothing_yet).rows ≤ places
    → let table = table_of places (tabled_after k a trace nothing_yet).rows in Stands k a trace (run_after k a trace) (pages_of table) (numbers_of table)
table_stands k a pos le top trace places h =
    let rows = (tabled_after k a trace nothing_yet).rows in
    let table = table_of places rows in
    let long : length (pages_of table) ≡ places = pages_length table ∙ length_table places rows h in
    record {
      sizes = record { a_low = pos; a_high = le; k_high = top };
      run_is = refl;
      one_length = pages_length table ∙ sym (length_numbers table);
      table_is = rw long (rows_back table);
      room = omega arith;
      well = rw (rows_back table) (after_well k a pos le trace places);
    }

-- the empty state stands for the empty trace
pub start_stands : (k a : ℕ) → 1 ≤ a → a ≤ k → k ≤ 256 → (n : ℕ) → Stands k a [] (empty_run k a) (replicate n 0) (replicate n 0)
start_stands k a pos le top n =
    let whole : n ≡ n - 0 = omega arith in
    let empty : rows_of (replicate n 0) (replicate n 0) ≡ table_of n [] = zeros n ∙ ap (λ m. replicate m unused) whole in
    record {
      sizes = record { a_low = pos; a_high = le; k_high = top };
      run_is = refl;
      one_length = refl;
      table_is = rw (length-replicate {A = ℕ} n 0) empty;
      room = omega arith;
      well = rw empty (after_well k a pos le [] n);
    }
  where
    zeros : (m : ℕ) → rows_of (replicate m 0) (replicate m 0) ≡ replicate m unused
    zeros zero = refl
    zeros (suc m) = ap (λ rows. unused ∷ rows) (zeros m)

-- Refusals

-- no call on such a state is refused with 1, 2, 8 or 9
pub never_ill_formed : (k a : ℕ) (trace : List ℕ) (run : LayersRun) (pages numbers : List ℕ) → Stands k a trace run pages numbers
    → (rest : ℕ) → state_refusal run pages numbers rest ≡ rest
unfolding state_refusal
never_ill_formed k a trace run pages numbers S rest =
    let same-k : run.k ≡ k = ap (λ r. r.k) S.run_is in
    let same-a : run.a ≡ a = ap (λ r. r.a) S.run_is in
    let right : SizesRight run.k run.a = rw (same-k, same-a) S.sizes in
    let long : eqb (length pages) (length numbers) ≡ true = eq-eqb _ _ S.one_length in
    sizes_taken run.k run.a right _ ∙ rw (long, S.well)

-- a refused request leaves both lists as they are
pub refusal_keeps : (run : LayersRun) (pages numbers : List ℕ) (p : ℕ) → (request_refusal run pages numbers p ≡ 0 → ⊥)
    → (pages_next run pages numbers p ≡ pages) × (numbers_next run pages numbers p ≡ numbers)
unfolding pages_next numbers_next
refusal_keeps run pages numbers p h =
    let e : eqb (request_refusal run pages numbers p) 0 ≡ false = ne_eqb _ _ h in
    (rw e, rw e)

-- the answer has the refusal's number
pub reply_refusal : (run : LayersRun) (pages numbers : List ℕ) (p : ℕ) → (request_reply run pages numbers p).refusal ≡ request_refusal run pages numbers p
unfolding request_reply
reply_refusal run pages numbers p =
    cases (eqb (request_refusal run pages numbers p) 0)
    (λ e. rw e (let z : request_refusal run pages numbers p ≡ 0 = omega tests in sym z))
    (λ e. rw e)

-- An accepted request

accepted_reply : (run : LayersRun) (pages numbers : List ℕ) (p : ℕ) → request_refusal run pages numbers p ≡ 0
    → request_reply run pages numbers p ≡ reply_next run p (rows_of numbers pages)
unfolding request_reply
accepted_reply run pages numbers p e = rw e

accepted_pages_lem : (run : LayersRun) (pages numbers : List ℕ) (p : ℕ) → request_refusal run pages numbers p ≡ 0
    → pages_next run pages numbers p ≡ pages_of (table_next run pages numbers p)
unfolding pages_next
accepted_pages_lem run pages numbers p e = rw e

accepted_numbers : (run : LayersRun) (pages numbers : List ℕ) (p : ℕ) → request_refusal run pages numbers p ≡ 0
    → numbers_next run pages numbers p ≡ numbers_of (table_next run pages numbers p)
unfolding numbers_next
accepted_numbers run pages numbers p e = rw e

-- a request that is not refused has room for its rows
not_full : (run : LayersRun) (pages numbers : List ℕ) (p : ℕ) → ((rest : ℕ) → state_refusal run pages numbers rest ≡ rest)
    → request_refusal run pages numbers p ≡ 0 → length (rows_next run p (rows_of numbers pages)) ≤ length pages
unfolding request_refusal
not_full run pages numbers p formed e =
    let full = ltb (length pages) (length (rows_next run p (rows_of numbers pages))) in
    let ended = eqb run.requests 4294967295 in
    let later = zero_pass ended 12 (refuse full 10 0) (λ z. omega arith) (sym (formed (refuse ended 12 (refuse full 10 0))) ∙ e) in
    ltb-false _ _ (zero_pass full 10 0 (λ z. omega arith) later.1).0

module _ (k a : ℕ) (trace : List ℕ) (run : LayersRun) (pages numbers : List ℕ) (S : Stands k a trace run pages numbers) where
  -- the used rows are those of the trace
  pub used_is : used_rows (rows_of numbers pages) ≡ (tabled_after k a trace nothing_yet).rows
  used_is =
      rw S.table_is (used_table (length pages) (tabled_after k a trace nothing_yet).rows (tabled_formed k a S.sizes.a_low S.sizes.a_high trace).above)

  top_is : run.s ≡ (tabled_after k a trace nothing_yet).s
  top_is = ap (λ r. r.s) S.run_is ∙ sym (tabled_top k a trace)

  -- the rule is that of the layers of the trace
  same_rule : (p : ℕ) → rule_next run p (rows_of numbers pages) ≡ rule_after k a trace p
  same_rule p =
      rw (used_is, top_is, ap (λ r. r.k) S.run_is, tabled_map k a trace p, tabled_top k a trace)

  same_rows : (p : ℕ) → rows_next run p (rows_of numbers pages) ≡ (tabled_after k a (trace ++ (p ∷ [])) nothing_yet).rows
  same_rows p =
      rw (used_is, top_is, ap (λ r. r.k) S.run_is, ap (λ r. r.a) S.run_is)
      (sym (ap (λ T. T.rows) (tabled_snoc k a trace p nothing_yet)))

  room_kept : (p : ℕ) → request_refusal run pages numbers p ≡ 0 → length (tabled_after k a (trace ++ (p ∷ [])) nothing_yet).rows ≤ length pages
  room_kept p e =
      rw (← same_rows p) (not_full run pages numbers p (never_ill_formed k a trace run pages numbers S) e)

  same_run : (p : ℕ) → (reply_next run p (rows_of numbers pages)).run ≡ run_after k a (trace ++ (p ∷ []))
  same_run p =
      let rules = layer_rules k a trace no_layers in
      let same-k : run.k ≡ k = ap (λ r. r.k) S.run_is in
      let same-a : run.a ≡ a = ap (λ r. r.a) S.run_is in
      let more : run.requests + 1 ≡ length (trace ++ (p ∷ [])) = omega (arith, ap (λ r. r.requests) S.run_is, length-append trace (p ∷ [])) in
      -- a count of the rules rises by what its test says of this one
      let rises : (f : LayerRule → Bool) (n : ℕ) → n ≡ count f rules
      → n + bit (f (rule_next run p (rows_of numbers pages))) ≡ count f (layer_rules k a (trace ++ (p ∷ [])) no_layers) =
      λ f n e. rw (e, same_rule p, rules_snoc k a trace p no_layers) (sym (count_snoc f rules (rule_after k a trace p))) in
      let above : top_after (rule_next run p (rows_of numbers pages)) run.k run.a run.s ≡ (layers_after k a (trace ++ (p ∷ [])) no_layers).top =
      rw (same_rule p, same-k, same-a, ap (λ r. r.s) S.run_is) (sym (ap (λ L. L.top) (layers_snoc k a trace p no_layers))) in
      λ i. record {
        k = same-k i;
        a = same-a i;
        requests = more i;
        evictions = rises is_join run.evictions (ap (λ r. r.evictions) S.run_is) i;
        s = above i;
        appends = rises is_append run.appends (ap (λ r. r.appends) S.run_is) i;
        joins = rises is_join run.joins (ap (λ r. r.joins) S.run_is) i;
        lifts = rises is_lift run.lifts (ap (λ r. r.lifts) S.run_is) i;
      }

  -- an accepted request answers the rule that Figure 1 applies to the layers of the trace
  pub answer_is : (p : ℕ) → request_refusal run pages numbers p ≡ 0 → (request_reply run pages numbers p).answer ≡ rule_number (rule_after k a trace p)
  answer_is p e = ap (λ r. r.answer) (accepted_reply run pages numbers p e) ∙ ap rule_number (same_rule p)

-- an accepted request leads to the state that stands for the trace with its page behind
pub request_stands : (k a : ℕ) (trace : List ℕ) (run : LayersRun) (pages numbers : List ℕ) → Stands k a trace run pages numbers
    → (p : ℕ) → request_refusal run pages numbers p ≡ 0
    → Stands k a (trace ++ (p ∷ [])) (request_reply run pages numbers p).run (pages_next run pages numbers p) (numbers_next run pages numbers p)
request_stands k a trace run pages numbers S p e =
    rw (
      accepted_reply run pages numbers p e,
      accepted_pages_lem run pages numbers p e,
      accepted_numbers run pages numbers p e,
      same_run k a trace run pages numbers S p,
      same_rows k a trace run pages numbers S p,
    )
    (table_stands k a S.sizes.a_low S.sizes.a_high S.sizes.k_high (trace ++ (p ∷ [])) (length pages) (room_kept k a trace run pages numbers S p e))

-- Questions

module _ (k a : ℕ) (trace : List ℕ) (run : LayersRun) (pages numbers : List ℕ) (S : Stands k a trace run pages numbers) where
  -- each page's number in the table is its layer
  pub map_agrees : (q : ℕ) → number_in (used_rows (rows_of numbers pages)) q ≡ (layers_after k a trace no_layers).of q
  map_agrees q = rw (used_is k a trace run pages numbers S) (tabled_map k a trace q)

  -- the record and the table hold the layers of the trace
  pub layers_agree : layers_in run (rows_of numbers pages) ≡ layers_after k a trace no_layers
  layers_agree = λ i. record { of = λ q. map_agrees q i; top = ap (λ r. r.s) S.run_is i }

  -- a set without repeats is judged by the layers of the trace
  pub verdict_agrees : (set : List ℕ) → distinct set ≡ true → verdict run pages numbers set ≡ judged (layers_after k a trace no_layers) set
  verdict_agrees set d = unfold verdict possible_refusal in
      rw (never_ill_formed k a trace run pages numbers S (refuse (not (distinct set)) 11 0), d)
      (ap (λ L. judged L set) layers_agree)

module _ (k a : ℕ) (trace : List ℕ) (run : LayersRun) (pages numbers : List ℕ) (S : Stands k a trace run pages numbers) (set : List ℕ)
    (r : Result PossibleAnswer Refusal) (told : verdict_of r ≡ verdict run pages numbers set) where
  judged_by_trace : distinct set ≡ true → verdict_of r ≡ judged (layers_after k a trace no_layers) set
  judged_by_trace d = told ∙ verdict_agrees k a trace run pages numbers S set d

  -- an answer that keeps the promise of the question is Yes exactly if the set is possible by the layers of the trace
  pub yes_exactly : distinct set ≡ true → (r ≡ Ok Yes) ↔ (possible (layers_after k a trace no_layers) set ≡ true)
  yes_exactly d = yes_is_possible (layers_after k a trace no_layers) set r (judged_by_trace d)

  -- a set that is not refused names no page twice
  taken_once : possible_refusal run pages numbers set ≡ 0 → distinct set ≡ true
  taken_once e = unfold possible_refusal in
      cases (distinct set) (λ d. d)
      (λ d. absurd (omega (arith, rw (never_ill_formed k a trace run pages numbers S (refuse (not (distinct set)) 11 0), d) at e)))

  -- and it names a layer exactly if the set names no page twice and has s pages, and the rule breaks there and at no layer below
  pub named_by_trace : (i : ℕ)
      → (r ≡ Ok (BrokenAt i)) ↔ ((distinct set ≡ true) × (length set ≡ (layers_after k a trace no_layers).top) × BreaksFirstAt (layers_after k a trace no_layers) set i)
  named_by_trace i = (
    λ e.
        let d = taken_once (named_taken run pages numbers set i (sym (ap verdict_of e) ∙ told)) in
        let f = (broken_is_first (layers_after k a trace no_layers) set r (judged_by_trace d) i).0 e in
        (d, f.0, f.1),
    λ f. (broken_is_first (layers_after k a trace no_layers) set r (judged_by_trace f.0) i).1 (f.1, f.2),
  )

-- The call over a whole trace

rows_fit : (k a places : ℕ) (trace : List ℕ) (T : Tabled) → length T.rows ≤ places → overflows k a places trace T ≡ false
    → length (tabled_after k a trace T).rows ≤ places
rows_fit k a places [] T h e = h
rows_fit k a places (p ∷ ps) T h e =
    rows_fit k a places ps (tabled_next k a p T) (ltb-false _ _ (or_none_l _ _ e)) (or_none_r _ _ e)

trace_passed : (k a : ℕ) (trace pages numbers : List ℕ) → over_refusal k a trace pages numbers ≡ 0
    → SizesRight k a × (overflows k a (length pages) trace nothing_yet ≡ false)
unfolding early_refusal
trace_passed k a trace pages numbers e =
    let full = overflows k a (length pages) trace nothing_yet in
    let used = not (all_unused (rows_of numbers pages)) in
    let uneven = not (eqb (length pages) (length numbers)) in
    let right = trace_right k a trace (refuse uneven 8 (refuse used 9 (refuse full 10 0))) e in
    let eighth = zero_pass uneven 8 (refuse used 9 (refuse full 10 0)) (λ z. omega arith) right.2 in
    let ninth = zero_pass used 9 (refuse full 10 0) (λ z. omega arith) eighth.1 in
    (right.0, (zero_pass full 10 0 (λ z. omega arith) ninth.1).0)

-- the lists that the call leaves stand for the trace, as after single calls
pub trace_stands : (k a : ℕ) (trace pages numbers : List ℕ) → over_refusal k a trace pages numbers ≡ 0
    → Stands k a trace (run_after k a trace) (pages_over k a trace pages numbers) (numbers_over k a trace pages numbers)
unfolding pages_over numbers_over
trace_stands k a trace pages numbers e =
    let ok = trace_passed k a trace pages numbers e in
    let right = ok.0 in
    rw e (table_stands k a right.a_low right.a_high right.k_high trace (length pages) (rows_fit k a (length pages) trace nothing_yet (omega arith) ok.1))

-- its answer is the layers' count, s and revealed pages
pub trace_counts : (k a : ℕ) (trace pages numbers : List ℕ) → over_refusal k a trace pages numbers ≡ 0
    → trace_totals k a trace pages numbers
    ≡ record {
      refusal = 0;
      bundles = join_count k a trace;
      s = (layers_after k a trace no_layers).top;
      revealed = revealed (layers_after k a trace no_layers).top (tabled_after k a trace nothing_yet).rows;
    }
unfolding trace_totals
trace_counts k a trace pages numbers e = rw (e, tabled_joins k a trace, tabled_top k a trace)

-- it is not refused where the sizes are right, the trace is not too long, and the table is unused and has a place for each request
pub trace_accepted : (k a : ℕ) → 1 ≤ a → a ≤ k → k ≤ 256 → (trace : List ℕ) → length trace ≤ 65536 → (n : ℕ) → length trace ≤ n
    → over_refusal k a trace (replicate n 0) (replicate n 0) ≡ 0
unfolding early_refusal
trace_accepted k a pos le top trace short n h =
    let right : SizesRight k a = record { a_low = pos; a_high = le; k_high = top } in
    let fits : overflows k a (length (replicate {A = ℕ} n 0)) trace nothing_yet ≡ false = rw (length-replicate {A = ℕ} n 0) (no_overflow k a n trace h) in
    trace_taken k a trace right short _
    ∙ rw (eq-eqb (length (replicate {A = ℕ} n 0)) (length (replicate {A = ℕ} n 0)) refl, zeros_unused n, fits)
  where
    zeros_unused : (m : ℕ) → all_unused (rows_of (replicate m 0) (replicate m 0)) ≡ true
    zeros_unused zero = refl
    zeros_unused (suc m) = and_i _ _ (unfold is_unused ◌and◌ in refl) (zeros_unused m)
