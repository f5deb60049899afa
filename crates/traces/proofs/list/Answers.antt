use Rattle.traces.proofs.ListLaws.{listing_first}
use Rattle.traces.proofs.list.Goals as goal

pub loop-i-init : goal.loop-i-init
loop-i-init c = listing_first _ _ c.requires
