-- What a cost says (document 01, "What demand 3 compares"): the two files are, byte for byte, a file of a trace, with runs or without, and a legal
-- schedule of it with that cost.
use Rattle.std.specs.Prelude.{ℕ, ◌≤◌, true, List, ◌≡◌, length}
use Rattle.paging.specs.Refusals.{SizesRight, longest_trace}
use Rattle.paging.specs.Schedule.{Entry, serves, entries_cost}
use Rattle.records.specs.Bytes.{TraceFileOf, schedule_bytes}

pub record LegalFiles (trace schedule : List ℕ) (bundles : ℕ) : Type 0 where
  pub k : ℕ
  pub a : ℕ
  pub pages : List ℕ
  pub entries : List Entry
  -- k is 1 to 256, a is 1 to k
  pub sizes : SizesRight k a
  -- the trace has 0 to 65,536 requests
  pub few : length pages ≤ longest_trace
  pub trace_is : TraceFileOf k a pages trace
  pub schedule_is : schedule ≡ schedule_bytes k a entries
  -- the entries are in order, at requests of the trace, and legal
  pub legal : serves k a pages entries ≡ true
  pub costs : bundles ≡ entries_cost entries
