-- A state that no request is refused in, as plain facts.
use Rattle.std.specs.Prelude.{ℕ, ◌+◌, ◌≤◌, ◌<◌, true, List, ◌≡◌, length, take}
use Rattle.lists.specs.Pages.{distinct}
use Rattle.paging.specs.Refusals.{SizesRight, largest_k, longest_trace, full_counter}
use Rattle.queue.specs.declared.Run.{Run}
use Rattle.queue.specs.declared.serving.Found.{Found}
use Rattle.queue.specs.declared.serving.Found.TheVariants.{Room, Full}

pub record RequestReady (run : Run) (count : ℕ) (cache evicted : List ℕ) : Type 0 where
  pub sizes : SizesRight run.k run.a
  pub cache_room : run.k ≤ length cache
  pub evicted_room : run.a ≤ length evicted
  pub count_most : count ≤ run.k
  pub evictions_most : run.evictions ≤ run.loads
  pub loads_most : run.loads ≤ run.requests
  pub once : distinct (take count cache) ≡ true
  pub further : run.requests ≡ full_counter → ⊥

-- the counters of the record do not pass their limit with one more request
pub record CountersFit (run : Run) (loads bundles : ℕ) : Type 0 where
  pub requests_fit : run.requests < full_counter
  pub loads_fit : run.loads + loads < 4294967296
  pub evictions_fit : run.evictions + bundles < 4294967296

-- what was found can be answered
pub record AnswerReady (found : Found) (run : Run) (count : ℕ) : Type 0 where
  pub fits : CountersFit run 1 1
  pub count_most : count ≤ largest_k
  pub enough : found ≡ Full → run.a ≤ count

-- and the page settled among the n pages held
pub record SettleReady (found : Found) (n k a : ℕ) (cache : List ℕ) : Type 0 where
  pub count_most : n ≤ k
  pub cache_room : k ≤ length cache
  pub free : found ≡ Room → n < k
  pub enough : found ≡ Full → (1 ≤ a) × (a ≤ n)

-- sizes and a trace that are not refused
pub record TraceReady (k a : ℕ) (trace : List ℕ) : Type 0 where
  pub sizes : SizesRight k a
  pub trace_most : length trace ≤ longest_trace
