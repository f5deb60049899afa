use Rattle.std.proofs.Common.{arith}
use Rattle.lists.specs.Choice.{◌or◌}
use Rattle.mark.specs.Calls.{lists_refused}
use Rattle.mark.proofs.refusing.LentLists.refused.Goals as goal

pub returns-then-self-places : goal.returns-then-self-places
unfolding lists_refused ◌or◌
returns-then-self-places c = grind arith

pub returns-else-self-places : goal.returns-else-self-places
unfolding lists_refused ◌or◌
returns-else-self-places c = grind arith
