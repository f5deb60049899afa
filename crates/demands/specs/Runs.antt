-- Runs of one page (document 02, request 03): the judge and the bench see the same, however equal requests in a row are written.
use Rattle.std.specs.Prelude.{ℕ, ◌<◌, List, ◌++◌, ◌≡◌, take, replicate}
use Rattle.paging.specs.Refusals.{SizesRight}
use Rattle.records.specs.Bytes.{rq_bytes, rr_bytes, joined, TraceFileOf}
use Rattle.traces.specs.Traces.{EndsBetween}
use Rattle.judging.specs.Files.{judged}
use Rattle.report.specs.Calls.{input_bytes, report_of}

pub record RunsRead : Type 0 where
  -- "whoever writes a run of one or more as single records sees the same results from the judge and `bench`": whatever bytes stand behind the run, damaged
  -- ones too, and whatever stand in front of it, unless they end inside a record, whose last bytes the run's first would then be
  pub judge_sees_the_same : (front behind schedule : List ℕ) (page times : ℕ) → EndsBetween front → 0 < times
      → judged (front ++ (rr_bytes page times ++ behind)) schedule ≡ judged (front ++ (joined rq_bytes (replicate times page) ++ behind)) schedule
  pub bench_sees_the_same : (front behind : List ℕ) (page times : ℕ) → EndsBetween front → 0 < times
      → report_of (front ++ (rr_bytes page times ++ behind)) ≡ report_of (front ++ (joined rq_bytes (replicate times page) ++ behind))
  -- the program has only the first 32,782 bytes of its input, and the single records are longer than the run: that changes nothing
  pub bench_reads_enough : (input : List ℕ) → report_of (take input_bytes input) ≡ report_of input
  -- so do all files of one trace, wherever their runs begin and end; and each trace has a file
  pub judge_sees_the_trace : (k a : ℕ) (pages file other schedule : List ℕ) → SizesRight k a → TraceFileOf k a pages file → TraceFileOf k a pages other
      → judged file schedule ≡ judged other schedule
  pub bench_sees_the_trace : (k a : ℕ) (pages file other : List ℕ) → SizesRight k a → TraceFileOf k a pages file → TraceFileOf k a pages other
      → report_of file ≡ report_of other
  pub each_trace_has_a_file : (k a : ℕ) (pages : List ℕ) → (file : List ℕ) × TraceFileOf k a pages file
