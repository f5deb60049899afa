-- Demand 3 (document 01, "What demand 3 compares"), whole: one record with a field for each of its sentences, and for each that document 02 adds.
use Rattle.std.specs.Prelude.{ℕ, ◌*◌, ◌≤◌, true, List, [], Result, Ok, ◌↔◌, ◌⊎◌, ◌≡◌, pos, length}
use Rattle.lists.specs.Pages.{distinct}
use Rattle.paging.specs.Layers.{no_layers, layers_after, BreaksFirstAt}
use Rattle.paging.specs.Min.{min_rule, best_count}
use Rattle.paging.specs.Policy.{holds, bundles}
use Rattle.paging.specs.Refusals.{largest_k, trace_refusal}
use Rattle.paging.specs.Schedule.{Entry, serves, entries_cost}
use Rattle.paging.specs.declared.Keeping.TheVariants.{ByRequest, ByLoad}
use Rattle.paging.specs.declared.reasons.Refusal.{Refusal}
use Rattle.marking.specs.Marking.{PriorityRule, mark_bundles}
use Rattle.theory.specs.Factor.{ceil_div}
use Rattle.theory.specs.Possible.{CanHold, HoldsJust}
use Rattle.wire.specs.Numbers.{Bytes}
use Rattle.records.specs.Bytes.{TraceFileOf, schedule_bytes}
use Rattle.queue.specs.Standing.{Call, after_calls, accepted_pages, empty_state}
use Rattle.layers.specs.Questions.{verdict_of, verdict}
use Rattle.layers.specs.declared.PossibleAnswer.{PossibleAnswer}
use Rattle.layers.specs.declared.PossibleAnswer.TheVariants.{Yes, BrokenAt}
use Rattle.mark.specs.Standing as marking
use Rattle.min.specs.Calls.{counts_of, schedule_refusal, scheduled_of, schedule_written}
use Rattle.judging.specs.Answer.{refused, answer_number}
use Rattle.judging.specs.Files.{judged}
use Rattle.judging.specs.LegalFiles.{LegalFiles}
use Rattle.report.specs.Calls.{ReportAnswer, report_of}
use Rattle.demands.specs.LayersCalls.{LayersCall, layers_start, layers_after_calls, layers_trace}

-- MIN's bundles of a trace as EVs
abbrev pub min_entries : (k a : ℕ) → (trace : List ℕ) → List Entry
min_entries k a trace = bundles (min_rule a) k 0 trace [] []

pub record Compares (k a : ℕ) : Type 0 where
  -- "MIN's bundles, as EVs, are a legal schedule of a trace; every other legal schedule of it costs at least its best count"
  pub min_is_legal : (trace : List ℕ) → serves k a trace (min_entries k a trace) ≡ true
  pub min_costs_the_best_count : (trace : List ℕ) → entries_cost (min_entries k a trace) ≡ best_count k a trace
  pub no_legal_schedule_costs_less : (trace : List ℕ) (schedule : List Entry) → serves k a trace schedule ≡ true → best_count k a trace ≤ entries_cost schedule
  -- "after a layers list its record's evictions equal the best count of its trace"
  pub layers_count_the_best : (places : ℕ) (calls : List LayersCall)
      → (layers_after_calls calls (layers_start k a places)).run.evictions ≡ best_count k a (layers_trace calls (layers_start k a places))
  -- "after an LRU list its record's evictions are at most k/a, rounded up, times the best count of its trace"
  pub lru_stays_within_the_factor : (cache : List ℕ) (calls : List Call)
      → (after_calls ByRequest calls (empty_state k a cache)).run.evictions ≤ ceil_div k a * best_count k a (accepted_pages ByRequest calls (empty_state k a cache))
  -- document 02, request 01: "the k/a rounded up factor for it, from an empty buffer", for lists of oldest load, refused calls among them
  pub oldest_load_stays_within_the_factor : (cache : List ℕ) (calls : List Call)
      → (after_calls ByLoad calls (empty_state k a cache)).run.evictions ≤ ceil_div k a * best_count k a (accepted_pages ByLoad calls (empty_state k a cache))
  -- "against the layers' count, as long as both have accepted every request of the trace": where the accepted pages are the same
  pub oldest_load_within_the_layers_count : (cache : List ℕ) (calls : List Call) (places : ℕ) (layers_calls : List LayersCall)
      → accepted_pages ByLoad calls (empty_state k a cache) ≡ layers_trace layers_calls (layers_start k a places)
      → (after_calls ByLoad calls (empty_state k a cache)).run.evictions ≤ ceil_div k a * (layers_after_calls layers_calls (layers_start k a places)).run.evictions
  -- document 02, request 09: "From an empty buffer and empty layers a depot may count on the same factor against the best count as for LRU", for lists of
  -- marking with RDM, refused calls among them
  pub marking_stays_within_the_factor : (cache marks priorities : List ℕ) (places : ℕ) (calls : List marking.Call)
      → (let start = marking.empty_state k a cache marks priorities places in
      (marking.after_calls calls start).run.evictions ≤ ceil_div k a * best_count k a (marking.accepted_pages calls start))
  -- "for any rule of priorities": marking by the rule, over any trace
  pub any_priorities_stay_within_the_factor : (rule : PriorityRule) (trace : List ℕ) → mark_bundles rule k a trace ≤ ceil_div k a * best_count k a trace
  -- "after a layers list a set, its pages each named once, in any order, is answered possible exactly if pages can be put behind the
  -- trace so that MIN's rule, on the whole, holds just that set after the trace's last request"
  pub possible_is_what_min_can_hold : (places : ℕ) (calls : List LayersCall) (set : List ℕ) → distinct set ≡ true
      → (answer : Result PossibleAnswer Refusal)
      → (let x = layers_after_calls calls (layers_start k a places) in verdict_of answer ≡ verdict x.run x.pages x.numbers set)
      → (answer ≡ Ok Yes) ↔ CanHold (min_rule a) k (layers_trace calls (layers_start k a places)) set
  -- and whatever pages follow, MIN holds no set that is answered otherwise
  pub no_other_set_is_held : (places : ℕ) (calls : List LayersCall) (set : List ℕ) → distinct set ≡ true
      → (answer : Result PossibleAnswer Refusal)
      → (let x = layers_after_calls calls (layers_start k a places) in verdict_of answer ≡ verdict x.run x.pages x.numbers set)
      → (later : List ℕ) → HoldsJust (holds (min_rule a) k (layers_trace calls (layers_start k a places)) later []) set → answer ≡ Ok Yes
  -- document 02, request 06: a "no" gives "the smallest i at which the set has more than i pages from L0 to Li", of the layers of the list's trace. "'Count
  -- differs' is still looked at before it", so the set has s pages, and a page that is named twice comes before both
  pub no_names_the_lowest_layer : (places : ℕ) (calls : List LayersCall) (set : List ℕ) (answer : Result PossibleAnswer Refusal)
      → (let x = layers_after_calls calls (layers_start k a places) in verdict_of answer ≡ verdict x.run x.pages x.numbers set)
      → (i : ℕ)
      → (let L = layers_after k a (layers_trace calls (layers_start k a places)) no_layers in
      (answer ≡ Ok (BrokenAt i)) ↔ ((distinct set ≡ true) × (length set ≡ L.top) × BreaksFirstAt L set i))
  -- "for each trace that MIN accepts, the bundles it reports and the EVs it writes are each as many as its best count, and that number is
  -- the judge's answer to a file of the trace and just the schedule's bytes": to every file of it, with runs (document 02, request 03) or without
  pub min_counts_the_best_count : (trace : List ℕ) → trace_refusal k a trace 0 ≡ 0 → (counts_of k a trace).bundles ≡ best_count k a trace
  pub min_reports_the_best_count : (trace out : List ℕ) → schedule_refusal k a trace out ≡ 0 → (scheduled_of k a trace out).bundles ≡ best_count k a trace
  pub min_writes_its_schedule : (trace out : List ℕ) → schedule_refusal k a trace out ≡ 0
      → schedule_written k a trace out ≡ schedule_bytes k a (min_entries k a trace)
  pub judge_answers_the_best_count : (trace out file : List ℕ) → schedule_refusal k a trace out ≡ 0 → TraceFileOf k a trace file
      → answer_number (judged file (schedule_written k a trace out)) ≡ pos (best_count k a trace)

-- of a report: LRU's, oldest load's and marking's bundles are at most k/a, rounded up, times those that the layers count
abbrev pub WithinFactor : ReportAnswer → Type 0
WithinFactor r =
    (r.lru.bundles ≤ ceil_div r.k r.a * r.layers.bundles)
    × (r.fifo.bundles ≤ ceil_div r.k r.a * r.layers.bundles)
    × (r.mark.bundles ≤ ceil_div r.k r.a * r.layers.bundles)

-- the whole demand: the comparisons for every k from 1 to 256 and a from 1 to k, the judge on any two files, and the bench on any input
pub record Demand3 : Type 0 where
  pub compares : (k a : ℕ) → 1 ≤ a → a ≤ k → k ≤ largest_k → Compares k a
  -- "two files for which the judge answers a cost are a trace and a legal schedule of it with that cost": the caller receives a number, and one at or above
  -- zero is a cost
  pub judge_answers_a_legal_cost : (trace schedule : List ℕ) → Bytes trace → Bytes schedule → (bundles : ℕ)
      → answer_number (judged trace schedule) ≡ pos bundles → LegalFiles trace schedule bundles
  -- and one below zero is a refusal's, from 1 to 7 or 13 (document 02, request 03), made negative
  pub judge_refuses_by_number : (trace schedule : List ℕ) (number : ℕ) → judged trace schedule ≡ refused number
      → (1 ≤ number) × ((number ≤ 7) ⊎ (number ≡ 13))
  -- what a depot reads off the bench (document 02, requests 01 and 09): of every report the lines `lru`, `fifo` and `mark` are within the factor of the line `layers`. Of a
  -- refused one all are zero
  pub reports_stay_within_the_factor : (input : List ℕ) → WithinFactor (report_of input)
