-- The comparisons of demand 3 hold, for every k from 1 to 256 and a from 1 to k.
use Prim.Native.Nat.{ℕ, ◌*◌, ◌≤◌}
use native.Mathlib.Omega.{arith}
use mathlib.Core.List.{List}
use mathlib.Core.Path.{◌≡◌, refl, ap, sym, ◌∙◌}
use Rattle.paging.specs.Min.{best_count}
use Rattle.paging.specs.Refusals.{SizesRight}
use Rattle.paging.specs.declared.Keeping.{Keeping}
use Rattle.paging.specs.declared.Keeping.TheVariants.{ByRequest, ByLoad}
use Rattle.paging.proofs.Refusals.{trace_right}
use Rattle.marking.specs.Rdm.{rdm}
use Rattle.theory.specs.Factor.{ceil_div}
use Rattle.theory.proofs.Best.{min_serves, min_costs_best, serving_costs_best, layers_count_best}
use Rattle.theory.proofs.Front.{front_within_factor, lru_within_factor, fifo_within_layers}
use Rattle.theory.proofs.Marking.{marking_within_factor}
use Rattle.theory.proofs.Possible.{possible_is_what_min_can_hold, min_holds_possible_sets}
use Rattle.records.specs.Bytes.{TraceFileOf}
use Rattle.queue.specs.Standing.{Call, accepted_pages, after_calls, empty_state}
use Rattle.queue.specs.declared.Run.{Run}
use Rattle.queue.proofs.Steps.{calls_from_empty}
use Rattle.layers.specs.declared.LayersRun.{LayersRun}
use Rattle.layers.proofs.Steps.{yes_exactly, named_by_trace}
use Rattle.mark.specs.Standing as marking
use Rattle.mark.specs.declared.MarkRun.{MarkRun}
use Rattle.mark.proofs.Standing as mark_steps
use Rattle.min.specs.Calls.{bytes_refusal, schedule_refusal, schedule_written}
use Rattle.min.proofs.ReadBack.{schedule_written_lem}
use Rattle.judging.specs.Answer.{cost, answer_number}
use Rattle.judging.specs.Files.{judged}
use Rattle.judging.proofs.ExactFiles.{sound, complete}
use Rattle.judging.proofs.Numbers.{refusals_are_numbered, number_is_cost}
use Rattle.report.specs.Calls.{figures}
use Rattle.report.proofs.Cases.{every_report}
use Rattle.demands.specs.Demand3.{Compares, Demand3, WithinFactor, min_entries}
use Rattle.demands.specs.LayersCalls.{layers_start, layers_after_calls, layers_trace}
use Rattle.demands.proofs.LayersLists.{list_stands}

-- MIN's schedule, and the judge's answer to it

judge_answers : (k a : ℕ) → 1 ≤ a → a ≤ k → k ≤ 256 → (trace out file : List ℕ) → schedule_refusal k a trace out ≡ 0 → TraceFileOf k a trace file
    → judged file (schedule_written k a trace out) ≡ cost (best_count k a trace)
judge_answers k a pos le small trace out file e is =
    complete file (schedule_written k a trace out) (best_count k a trace)
    (record {
      k = k;
      a = a;
      pages = trace;
      entries = min_entries k a trace;
      sizes = record { a_low = pos; a_high = le; k_high = small };
      few = (trace_right k a trace (bytes_refusal k a trace out) e).1;
      trace_is = is;
      schedule_is = schedule_written_lem k a trace out e;
      legal = min_serves k a pos le trace;
      costs = sym (min_costs_best k a pos le trace);
    })

-- LRU and oldest load, over lists of calls

calls_within_factor : (keeping : Keeping) (k a : ℕ) → 1 ≤ a → a ≤ k → k ≤ 256 → (cache : List ℕ) (calls : List Call)
    → (after_calls keeping calls (empty_state k a cache)).run.evictions ≤ ceil_div k a * best_count k a (accepted_pages keeping calls (empty_state k a cache))
calls_within_factor keeping k a pos le small cache calls =
    let e = ap (λ (run : Run). run.evictions) (calls_from_empty keeping k a calls cache pos le small).record_is in
    rw e (front_within_factor keeping k a pos le (accepted_pages keeping calls (empty_state k a cache)))

-- Marking with RDM, over lists of calls

marking_calls_within_factor : (k a : ℕ) → 1 ≤ a → a ≤ k → k ≤ 256 → (cache marks priorities : List ℕ) (places : ℕ) (calls : List marking.Call)
    → (let start = marking.empty_state k a cache marks priorities places in
    (marking.after_calls calls start).run.evictions ≤ ceil_div k a * best_count k a (marking.accepted_pages calls start))
marking_calls_within_factor k a pos le small cache marks priorities places calls =
    let start = marking.empty_state k a cache marks priorities places in
    let e = ap (λ (run : MarkRun). run.evictions) (mark_steps.calls_from_empty k a calls cache marks priorities places pos le small).run_is in
    rw e (marking_within_factor (rdm k a) k a pos le (marking.accepted_pages calls start))

-- The bench's reports

figures_within_factor : (k a : ℕ) (trace : List ℕ) → SizesRight k a → WithinFactor (figures k a trace)
unfolding figures
figures_within_factor k a trace right = (
  rw (layers_count_best k a right.a_low right.a_high trace) (lru_within_factor k a right.a_low right.a_high trace),
  fifo_within_layers k a right.a_low right.a_high trace,
  rw (layers_count_best k a right.a_low right.a_high trace) (marking_within_factor (rdm k a) k a right.a_low right.a_high trace),
)

-- All together

pub compares : (k a : ℕ) → 1 ≤ a → a ≤ k → k ≤ 256 → Compares k a
compares k a pos le small =
    record {
      min_is_legal = min_serves k a pos le;
      min_costs_the_best_count = min_costs_best k a pos le;
      no_legal_schedule_costs_less = serving_costs_best k a pos le;
      layers_count_the_best = λ places calls.
          ap (λ (run : LayersRun). run.evictions) (list_stands k a pos le small places calls).run_is
          ∙ layers_count_best k a pos le (layers_trace calls (layers_start k a places));
      lru_stays_within_the_factor = calls_within_factor ByRequest k a pos le small;
      oldest_load_stays_within_the_factor = calls_within_factor ByLoad k a pos le small;
      oldest_load_within_the_layers_count = λ cache calls places layers_calls same.
          let trace = layers_trace layers_calls (layers_start k a places) in
          let counted = ap (λ (run : LayersRun). run.evictions) (list_stands k a pos le small places layers_calls).run_is ∙ layers_count_best k a pos le trace in
          let within = calls_within_factor ByLoad k a pos le small cache calls in
          rw (counted) (rw same at within);
      marking_stays_within_the_factor = marking_calls_within_factor k a pos le small;
      any_priorities_stay_within_the_factor = λ rule trace. marking_within_factor rule k a pos le trace;
      possible_is_what_min_can_hold = λ places calls set once answer told.
          let x = layers_after_calls calls (layers_start k a places) in
          let trace = layers_trace calls (layers_start k a places) in
          let yes = yes_exactly k a trace x.run x.pages x.numbers (list_stands k a pos le small places calls) set answer told once in
          let exact = possible_is_what_min_can_hold k a pos le trace set once in
          (λ y. exact.0 (yes.0 y), λ h. yes.1 (exact.1 h));
      no_other_set_is_held = λ places calls set once answer told later h.
          let x = layers_after_calls calls (layers_start k a places) in
          let trace = layers_trace calls (layers_start k a places) in
          let yes = yes_exactly k a trace x.run x.pages x.numbers (list_stands k a pos le small places calls) set answer told once in
          yes.1 (min_holds_possible_sets k a pos le trace set once later h);
      no_names_the_lowest_layer = λ places calls set answer told.
          let x = layers_after_calls calls (layers_start k a places) in
          let trace = layers_trace calls (layers_start k a places) in
          named_by_trace k a trace x.run x.pages x.numbers (list_stands k a pos le small places calls) set answer told;
      min_counts_the_best_count = λ trace e. rw e refl;
      min_reports_the_best_count = λ trace out e. rw e refl;
      min_writes_its_schedule = schedule_written_lem k a;
      judge_answers_the_best_count = λ trace out file e is. ap answer_number (judge_answers k a pos le small trace out file e is);
    }

pub demand_3_holds : Demand3
demand_3_holds = record {
  compares = compares;
  judge_answers_a_legal_cost = λ trace schedule bt bs bundles e. sound trace schedule bundles bt bs (number_is_cost trace schedule bundles e);
  judge_refuses_by_number = refusals_are_numbered;
  reports_stay_within_the_factor = every_report WithinFactor (λ number. (omega arith, omega arith, omega arith)) figures_within_factor;
}
