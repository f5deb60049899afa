-- `put_runs` meets its contract: a record for each run.
use Prim.Native.Nat.{◌-◌}
use Rattle.editions.proofs.Written.{WritingRuns}
use Rattle.editions.proofs.new_edition.put_runs.Given as goal

abbrev pub invariant-loop-i : goal.invariant-loop-i
invariant-loop-i l = WritingRuns l.file l.n l.initial.out l.out l.left l.at l.i

abbrev pub decreases-loop-i : goal.decreases-loop-i
decreases-loop-i l = l.n - l.i
