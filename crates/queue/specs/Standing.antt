-- A state that stands for a trace: record, count and cache list are those of the model over the trace, and the state is well formed.
-- Document 01's lists of calls ("What demand 3 compares") are made of such states.
use Rattle.std.specs.Prelude.{ℕ, ◌≤◌, Bool, true, List, [], ◌∷◌, ◌++◌, ◌≡◌, eqb, leb, length, take}
use Rattle.lists.specs.Choice.{pick, ◌and◌}
use Rattle.lists.specs.Pages.{distinct}
use Rattle.paging.specs.Front.{front_rule}
use Rattle.paging.specs.Policy.{holds_by, bundle_count_by, load_count_by}
use Rattle.paging.specs.Refusals.{SizesRight}
use Rattle.paging.specs.Schedule.{Entry, ev}
use Rattle.paging.specs.declared.Keeping.{Keeping}
use Rattle.queue.specs.Calls.{request_refusal, reply_of, cache_of, evicted_of}
use Rattle.queue.specs.Serving.{empty_run}
use Rattle.queue.specs.declared.Run.{Run}

-- the record after a trace
abbrev pub run_over : Keeping → (k a : ℕ) → (trace : List ℕ) → Run
run_over keeping k a trace =
    record {
      k = k;
      a = a;
      requests = length trace;
      loads = load_count_by keeping (front_rule a) k trace;
      evictions = bundle_count_by keeping (front_rule a) k trace;
    }

pub record Stands (keeping : Keeping) (k a : ℕ) (trace : List ℕ) (run : Run) (count : ℕ) (cache : List ℕ) : Type 0 where
  pub record_is : run ≡ run_over keeping k a trace
  pub held_is : take count cache ≡ holds_by keeping (front_rule a) k trace [] []
  pub count_is : count ≡ length (holds_by keeping (front_rule a) k trace [] [])
  pub sizes : SizesRight k a
  pub count_most : count ≤ k
  pub once : distinct (take count cache) ≡ true
  pub evictions_most : run.evictions ≤ run.loads
  pub loads_most : run.loads ≤ run.requests

-- a call, with the evicted list lent to it, and the state that calls are made on
pub record Call : Type 0 where
  pub page : ℕ
  pub evicted : List ℕ

pub record State : Type 0 where
  pub run : Run
  pub count : ℕ
  pub cache : List ℕ

-- document 01's start: the empty record, count 0 and any cache list
abbrev pub empty_state : (k a : ℕ) → (cache : List ℕ) → State
empty_state k a cache = record { run = empty_run k a; count = 0; cache = cache }

abbrev pub accepts : Call → State → Bool
accepts call S = eqb (request_refusal S.run S.count S.cache call.evicted) 0

-- what a call answers and leaves
abbrev pub after_call : Keeping → Call → State → State
after_call keeping call S =
    record {
      run = (reply_of keeping S.run S.count S.cache call.evicted call.page).run;
      count = (reply_of keeping S.run S.count S.cache call.evicted call.page).count;
      cache = cache_of keeping S.run S.count S.cache call.evicted call.page;
    }

-- the state that the next call gets: a refusal's zeros go no further
abbrev pub called : Keeping → Call → State → State
called keeping call S = pick (accepts call S) (after_call keeping call S) S

-- the state after calls one after the other, and the pages of the accepted ones
abbrev pub after_calls : Keeping → List Call → State → State
after_calls keeping [] S = S
after_calls keeping (call ∷ calls) S = after_calls keeping calls (called keeping call S)

abbrev pub accepted_pages : Keeping → List Call → State → List ℕ
accepted_pages keeping [] S = []
accepted_pages keeping (call ∷ calls) S = pick (accepts call S) (call.page ∷ []) [] ++ accepted_pages keeping calls (called keeping call S)

-- the bundles that calls left, one after the other, as entries of a schedule. A call that answered 2 left one: the number of its request,
-- and the first a places of its evicted list afterwards
abbrev pub bundle_left : Keeping → Call → State → List Entry
bundle_left keeping call S =
    pick (eqb (reply_of keeping S.run S.count S.cache call.evicted call.page).answer 2)
    (ev S.run.requests (take S.run.a (evicted_of S.run S.count S.cache call.evicted call.page)) ∷ [])
    []

abbrev pub bundles_left : Keeping → List Call → State → List Entry
bundles_left keeping [] S = []
bundles_left keeping (call ∷ calls) S = bundle_left keeping call S ++ bundles_left keeping calls (called keeping call S)

abbrev pub pages_of : List Call → List ℕ
pages_of [] = []
pages_of (call ∷ calls) = call.page ∷ pages_of calls

-- every evicted list has a places
abbrev pub roomy : (a : ℕ) → List Call → Bool
roomy a [] = true
roomy a (call ∷ calls) = leb a (length call.evicted) and roomy a calls
