-- The judge over the bytes of the two files (document 01: "Files are judged record by record, the trace first; KA's 1, 2, 6 fall at
-- that record, in this order"). The trace is read whole, as crate `traces` says it, with 65,536 requests as the limit.
use Rattle.std.specs.Prelude.{ℕ, List, eqb}
use Rattle.lists.specs.Choice.{pick, ◌and◌}
use Rattle.paging.specs.Refusals.{longest_trace}
use Rattle.reading.specs.Files.{entries_from}
use Rattle.reading.specs.Reading.{read_schedule}
use Rattle.reading.specs.Reading as reading
use Rattle.traces.specs.Traces.{TraceFile, whole, damaged, trace_file}
use Rattle.judging.specs.Answer.{Answer, refused}
use Rattle.judging.specs.Judging.{judged_from, stands_first}

-- behind a schedule's KA: its k, its a and the offset behind it. At offset 0 a reader answers a KA or a refusal (4, 5, 1, 2), nothing else
abbrev pub behind_ka : reading.Answer → (ℕ → ℕ → ℕ → Answer) → Answer
behind_ka (reading.refused number) go = refused number
behind_ka (reading.sizes k a next) go = go k a next
behind_ka reading.ended go = refused 5
behind_ka (reading.request page times next) go = refused 4
behind_ka (reading.bundle t n from next) go = refused 4
behind_ka (reading.fetch t page next) go = refused 4

-- a schedule of this trace: its KA, which differs from the trace's (6) or not, then its entries
abbrev pub schedule_judged : (k a : ℕ) → (pages schedule : List ℕ) → Answer
schedule_judged k a pages schedule =
    behind_ka (read_schedule a schedule 0)
    (λ k' a' next.
    let file = entries_from a schedule next in
    pick (eqb k' k and eqb a' a) (judged_from k file.damage file.held (stands_first pages)) (refused 6))

-- behind a trace: its k, its a and its requests
abbrev pub behind_trace : TraceFile → (ℕ → ℕ → List ℕ → Answer) → Answer
behind_trace (whole k a pages) go = go k a pages
behind_trace (damaged number) go = refused number

-- the whole trace is judged before the first byte of the schedule
unfoldable pub judged : (trace schedule : List ℕ) → Answer
judged trace schedule = behind_trace (trace_file longest_trace trace) (λ k a pages. schedule_judged k a pages schedule)
