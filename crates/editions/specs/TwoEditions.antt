-- What holds of the two editions (document 02, request 08), for a library or program that takes `limit` requests. It is said of the calls' answers, whatever file
-- they are handed and whatever bytes they are lent.
use Rattle.std.specs.Prelude.{ℕ, ◌≤◌, List, ◌≡◌, length}
use Rattle.wire.specs.Numbers.{Bytes}
use Rattle.records.specs.Bytes.{TraceEntry, trace_bytes, all_requests_of}
use Rattle.traces.specs.Traces.{whole, trace_file}
use Rattle.editions.specs.Calls.{converted_of, output}
use Rattle.editions.specs.Editions.{PageRun, longest_runs, new_records, old_bytes, new_bytes}
use Rattle.editions.specs.Longest.{requests_of_runs, Longest, OnlySingles, RecordsFit}

pub record TwoEditions (limit : ℕ) : Type 0 where
  -- "both outputs stand for the requests of the input": what a call that is not refused writes is read as the input is, with its sizes
  pub old_stands : (input out : List ℕ) → (converted_of old_bytes (trace_file limit input) out).refusal ≡ 0
      → trace_file limit (output old_bytes (trace_file limit input) out) ≡ trace_file limit input
  pub new_stands : (input out : List ℕ) → (converted_of new_bytes (trace_file limit input) out).refusal ≡ 0
      → trace_file limit (output new_bytes (trace_file limit input) out) ≡ trace_file limit input
  -- an old file has no RR: whatever RQs it has, it is the old edition of their requests
  pub old_files : (k a : ℕ) (entries : List TraceEntry) → OnlySingles entries → trace_bytes k a entries ≡ old_bytes k a (all_requests_of entries)
  -- "turning an old file to the new edition and back yields the old file's bytes": an old file that is accepted, wherever neither call is refused
  pub old_new_old : (k a : ℕ) (pages old out other : List ℕ) → old ≡ old_bytes k a pages → trace_file limit old ≡ whole k a pages
      → (converted_of new_bytes (trace_file limit old) out).refusal ≡ 0 → (converted_of old_bytes (trace_file limit (output new_bytes (trace_file limit old) out)) other).refusal ≡ 0
      → output old_bytes (trace_file limit (output new_bytes (trace_file limit old) out)) other ≡ old
  -- "for each longest run of a page": the runs make up the trace, none can be longer, and there are no others like that
  pub runs_make_the_trace : (pages : List ℕ) → requests_of_runs (longest_runs pages) ≡ pages
  pub runs_are_longest : (pages : List ℕ) → Longest (longest_runs pages)
  pub no_other_runs : (runs : List PageRun) (pages : List ℕ) → Longest runs → requests_of_runs runs ≡ pages → runs ≡ longest_runs pages
  -- its records are such as a file can have
  pub new_records_fit : (pages : List ℕ) → RecordsFit (new_records pages)
  -- the new edition is never longer than the old one, and no file at all that is read as this trace is shorter
  pub new_never_longer : (k a : ℕ) (pages : List ℕ) → length (new_bytes k a pages) ≤ length (old_bytes k a pages)
  pub new_is_shortest : (file : List ℕ) (k a : ℕ) (pages : List ℕ) → Bytes file → trace_file limit file ≡ whole k a pages
      → length (new_bytes k a pages) ≤ length file
