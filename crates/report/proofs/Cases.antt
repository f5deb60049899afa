-- A report is a refusal's, or the figures of a trace whose sizes are right: what holds of both holds of every report.
use Prim.Native.Nat.{ℕ}
use mathlib.Core.List.{List}
use Rattle.paging.specs.Refusals.{SizesRight}
use Rattle.traces.proofs.Whole.{each_file}
use Rattle.report.specs.Calls.{ReportAnswer, most_requests, figures, refused_report, reported, report_of}

pub every_report : (P : ReportAnswer → Type 0) → ((number : ℕ) → P (refused_report number)) → ((k a : ℕ) (trace : List ℕ) → SizesRight k a → P (figures k a trace))
    → (input : List ℕ) → P (report_of input)
unfolding report_of
every_report P refusal trace input = each_file most_requests input (λ x. P (reported x)) (λ number some l. refusal number) (λ k a pages w. trace k a pages w.right)
