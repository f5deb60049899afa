use Rattle.std.proofs.Common.{arith}
use Rattle.lists.specs.Choice.{◌and◌}
use Rattle.mark.specs.Formed.{record_formed}
use Rattle.mark.proofs.refusing.record_formed.Goals as goal

pub returns-then-layers-run-2 : goal.returns-then-layers-run-2
unfolding record_formed ◌and◌
returns-then-layers-run-2 c = grind arith

pub returns-else-layers-run-2 : goal.returns-else-layers-run-2
unfolding record_formed ◌and◌
returns-else-layers-run-2 c = grind arith
