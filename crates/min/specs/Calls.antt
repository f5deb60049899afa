-- What MIN's calls answer (document 01, "MIN" and "Who can cause a refusal"), by the refusal's number: 0 stands for none, and a
-- refusal is zero in every other field.
use Rattle.std.specs.Prelude.{ℕ, zero, suc, List, [], ◌++◌, ltb, length, take, drop}
use Rattle.paging.specs.Numbers.{TotalsAnswer}
use Rattle.paging.specs.Min.{min_rule, best_count, min_loads}
use Rattle.paging.specs.Policy.{bundles}
use Rattle.paging.specs.Refusals.{refuse, trace_refusal}
use Rattle.records.specs.Bytes.{schedule_bytes}
use Rattle.min.specs.Answers.{ScheduledAnswer}

abbrev pub counts_by : (number k a : ℕ) → (trace : List ℕ) → TotalsAnswer
counts_by zero k a trace = record { refusal = 0; bundles = best_count k a trace; loads = min_loads k a trace }
counts_by (suc n) k a trace = record { refusal = suc n; bundles = 0; loads = 0 }

-- the answer of the call that counts
abbrev pub counts_of : (k a : ℕ) → (trace : List ℕ) → TotalsAnswer
counts_of k a trace = counts_by (trace_refusal k a trace 0) k a trace

-- The schedule that MIN writes: the file of a KA and an EV for each of its bundles

unfoldable pub min_schedule : (k a : ℕ) → (trace : List ℕ) → List ℕ
min_schedule k a trace = schedule_bytes k a (bundles (min_rule a) k 0 trace [] [])

-- 8, judged last: the bytes are too few for the whole schedule
unfoldable pub bytes_refusal : (k a : ℕ) → (trace out : List ℕ) → ℕ
bytes_refusal k a trace out = refuse (ltb (length out) (length (min_schedule k a trace))) 8 0

abbrev pub scheduled_by : (number k a : ℕ) → (trace : List ℕ) → ScheduledAnswer
scheduled_by zero k a trace =
    record { refusal = 0; bundles = best_count k a trace; loads = min_loads k a trace; length = length (min_schedule k a trace) }
scheduled_by (suc n) k a trace = record { refusal = suc n; bundles = 0; loads = 0; length = 0 }

-- the lent bytes afterwards: the schedule, and behind it what stood there before; on a refusal every byte as it was
abbrev pub bytes_by : (number k a : ℕ) → (trace out : List ℕ) → List ℕ
bytes_by zero k a trace out = min_schedule k a trace ++ drop (length (min_schedule k a trace)) out
bytes_by (suc n) k a trace out = out

-- the refusal, the answer and the bytes of the call that writes
abbrev pub schedule_refusal : (k a : ℕ) → (trace out : List ℕ) → ℕ
schedule_refusal k a trace out = trace_refusal k a trace (bytes_refusal k a trace out)

abbrev pub scheduled_of : (k a : ℕ) → (trace out : List ℕ) → ScheduledAnswer
scheduled_of k a trace out = scheduled_by (schedule_refusal k a trace out) k a trace

abbrev pub bytes_of : (k a : ℕ) → (trace out : List ℕ) → List ℕ
bytes_of k a trace out = bytes_by (schedule_refusal k a trace out) k a trace out

-- just the schedule's bytes, as the call leaves them at the start of the lent bytes
abbrev pub schedule_written : (k a : ℕ) → (trace out : List ℕ) → List ℕ
schedule_written k a trace out = take (scheduled_of k a trace out).length (bytes_of k a trace out)
