use Rattle.std.proofs.Common.{◌*◌, ◌≤◌}
use Rattle.cases_calls.proofs.mark_cases.start.Given as goal

abbrev pub invariant-loop-before : goal.invariant-loop-before
invariant-loop-before l = l.at ≤ 8 * l.before
