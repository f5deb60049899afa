-- The judge and the bench read a trace whole, and what is read whole is the same for a run and for its single records.
use Prim.Native.Nat.{ℕ}
use mathlib.Core.List.{List}
use mathlib.Core.Path.{◌≡◌, ap}
use Rattle.paging.specs.Refusals.{longest_trace}
use Rattle.records.specs.Bytes.{singles, trace_bytes}
use Rattle.records.proofs.Files.{one_by_one}
use Rattle.traces.specs.Traces.{TraceFile, trace_file}
use Rattle.traces.proofs.Runs.{run_is_its_requests}
use Rattle.traces.proofs.Whole.{files_of_one_trace}
use Rattle.judging.specs.Files.{behind_trace, schedule_judged, judged}
use Rattle.report.specs.Calls.{most_requests, reported, report_of}
use Rattle.report.proofs.Prefix.{prefix_suffices}
use Rattle.demands.specs.Runs.{RunsRead}

judged_alike : (file other schedule : List ℕ) → trace_file longest_trace file ≡ trace_file longest_trace other → judged file schedule ≡ judged other schedule
unfolding judged
judged_alike file other schedule e = ap (λ (x : TraceFile). behind_trace x (λ k a pages. schedule_judged k a pages schedule)) e

reported_alike : (file other : List ℕ) → trace_file most_requests file ≡ trace_file most_requests other → report_of file ≡ report_of other
unfolding report_of
reported_alike file other e = ap reported e

pub runs_are_read : RunsRead
runs_are_read = record {
  judge_sees_the_same = λ front behind schedule page times w some. judged_alike _ _ schedule (run_is_its_requests front behind page times w some longest_trace);
  bench_sees_the_same = λ front behind page times w some. reported_alike _ _ (run_is_its_requests front behind page times w some most_requests);
  bench_reads_enough = prefix_suffices;
  judge_sees_the_trace = λ k a pages file other schedule right f g. judged_alike file other schedule (files_of_one_trace longest_trace k a pages file other right f g);
  bench_sees_the_trace = λ k a pages file other right f g. reported_alike file other (files_of_one_trace most_requests k a pages file other right f g);
  each_trace_has_a_file = λ k a pages. (trace_bytes k a (singles pages), one_by_one k a pages);
}
