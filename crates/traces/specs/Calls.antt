-- What the calls on a whole trace file answer, and what they leave in the lent list: by the file as it is read whole with a limit.
use Rattle.std.specs.Prelude.{ℕ, List, Result, Ok, Err, ◌++◌, length, drop}
use Rattle.paging.specs.Numbers.{number_of}
use Rattle.paging.specs.declared.reasons.Refusal.{Refusal}
use Rattle.traces.specs.Traces.{TraceFile, whole, damaged}
use Rattle.traces.specs.declared.TraceCount.{TraceCount}

-- a refusal's number and zeros, or 0 with k, a and the number of requests
pub record TraceCountAnswer : Type 0 where
  pub refusal : ℕ
  pub k : ℕ
  pub a : ℕ
  pub requests : ℕ

abbrev pub count_of : TraceFile → TraceCountAnswer
count_of (whole k a pages) = record { refusal = 0; k = k; a = a; requests = length pages }
count_of (damaged number) = record { refusal = number; k = 0; a = 0; requests = 0 }

abbrev pub trace_count_answer : Result TraceCount Refusal → TraceCountAnswer
trace_count_answer (Ok told) = record { refusal = 0; k = told.k; a = told.a; requests = told.requests }
trace_count_answer (Err reason) = record { refusal = number_of reason; k = 0; a = 0; requests = 0 }

-- the requests in the first places, the others as they were; a refusal changes nothing
abbrev pub pages_after : TraceFile → (lent : List ℕ) → List ℕ
pages_after (whole k a pages) lent = pages ++ drop (length pages) lent
pages_after (damaged number) lent = lent
