-- `next_run` meets its contract: records of one page are added to the run, until another page, the longest RR or the last request ends it.
use Prim.Native.Nat.{◌-◌}
use Rattle.cursor.proofs.Laws.{rest}
use Rattle.editions.proofs.Taking.{InRun}
use Rattle.editions.proofs.runs.next_run.Given as goal

abbrev pub invariant-loop-times : goal.invariant-loop-times
invariant-loop-times l = InRun l.file (rest l.page l.initial.times l.initial.from) l.n l.page l.times l.from

abbrev pub decreases-loop-times : goal.decreases-loop-times
decreases-loop-times l = l.n - l.times
