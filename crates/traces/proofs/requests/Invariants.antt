-- `traces::requests` meets its contract: so many requests are counted, and the others stand from the offset on.
use Prim.Native.Nat.{◌-◌}
use lib.ListN.{length}
use Rattle.traces.proofs.CountLaws.{Counting}
use Rattle.traces.proofs.requests.Given as goal

abbrev pub invariant-loop-times : goal.invariant-loop-times
invariant-loop-times l = Counting l.file l.most l.at l.n

abbrev pub decreases-loop-times : goal.decreases-loop-times
decreases-loop-times l = length l.file - l.at
