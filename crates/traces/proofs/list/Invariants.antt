-- `traces::list` meets its contract: so many places are filled.
use Rattle.traces.proofs.ListLaws.{Listing}
use Rattle.traces.proofs.list.Given as goal

abbrev pub invariant-loop-i : goal.invariant-loop-i
invariant-loop-i l = Listing l.file l.pages l.left l.i
