use Rattle.std.proofs.Common.{arith}
use Rattle.lists.specs.Choice.{◌and◌}
use Rattle.mark.specs.Formed.{buffer_formed}
use Rattle.mark.proofs.refusing.buffer_formed.Goals as goal

pub returns-then-rises : goal.returns-then-rises
unfolding buffer_formed ◌and◌
returns-then-rises c = grind arith

pub returns-else-rises : goal.returns-else-rises
unfolding buffer_formed ◌and◌
returns-else-rises c = grind arith
