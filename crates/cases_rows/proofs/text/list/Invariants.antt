use Rattle.std.proofs.Common.{◌≤◌, length, ◌≡◌}
use Rattle.cases_rows.specs.Rest.{IsRest}
use Rattle.cases_rows.proofs.text.list.Given as goal

abbrev pub invariant-loop-first : goal.invariant-loop-first
invariant-loop-first l = IsRest l.behind l.text × (l.count ≤ length l.to) × (length l.to ≡ length l.initial.to)

abbrev pub decreases-loop-first : goal.decreases-loop-first
decreases-loop-first l = length l.behind
