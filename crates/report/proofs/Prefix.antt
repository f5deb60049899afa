-- The bench sees the first bytes of its input alone. They suffice: whatever stands behind them, it says the same.
use Prim.Native.Nat.{ℕ, ◌≤◌}
use native.Mathlib.Omega.{arith}
use mathlib.Core.List.{List, ◌++◌}
use mathlib.Core.Path.{◌≡◌, sym, ap, ◌∙◌}
use lib.Dec.{leb}
use lib.ListN.{length, take, drop, take-append-drop}
use lib.Seq.{take_all, length-take-le}
use Rattle.lists.proofs.Choice.{cases, tests}
use Rattle.traces.proofs.Prefix.{nothing_behind_counts}
use Rattle.report.specs.Calls.{ReportAnswer, most_requests, input_bytes, reported, report_of, ReadEnough}

pub nothing_behind_is_told : (t u : List ℕ) → input_bytes ≤ length t → report_of (t ++ u) ≡ report_of t
unfolding report_of
nothing_behind_is_told t u h = ap reported (nothing_behind_counts t u most_requests (omega arith))

pub read_enough : (s : List ℕ) (report : ReportAnswer) → report ≡ report_of s → (report ≡ report_of s) × ReadEnough input_bytes s report
read_enough s report e = (e, λ h more. e ∙ sym (nothing_behind_is_told s more h))

-- what the bench says of the bytes that it reads, it says of the whole input
pub prefix_suffices : (s : List ℕ) → report_of (take input_bytes s) ≡ report_of s
prefix_suffices s =
    cases (leb (length s) input_bytes)
    (λ h. ap report_of (take_all input_bytes s (omega tests)))
    (λ h. sym (nothing_behind_is_told (take input_bytes s) (drop input_bytes s) (let l = length-take-le input_bytes s (omega tests) in omega arith))
    ∙ ap report_of (take-append-drop input_bytes s))
