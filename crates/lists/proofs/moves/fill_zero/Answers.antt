use Rattle.std.proofs.Common.{arith}
use Rattle.lists.proofs.Leaves.{zero_done}
use Rattle.lists.proofs.moves.fill_zero.Goals as goal

pub returns : goal.returns
returns c = zero_done c.args.pages.now _ c.loop-i.i c.loop-i.invariant (omega arith)
