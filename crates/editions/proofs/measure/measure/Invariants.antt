-- `measure` meets its contract: what is measured and what stands from the offset on make up the whole.
use Prim.Native.Nat.{◌-◌}
use lib.ListN.{length}
use Rattle.editions.proofs.MeasureLaws.{MeasuringAt}
use Rattle.editions.proofs.measure.measure.Given as goal

abbrev pub invariant-loop-page : goal.invariant-loop-page
invariant-loop-page l = MeasuringAt l.file l.most l.at l.requests l.last

abbrev pub decreases-loop-page : goal.decreases-loop-page
decreases-loop-page l = length l.file - l.at
