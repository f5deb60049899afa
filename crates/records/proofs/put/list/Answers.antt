use Rattle.std.proofs.Common.{arith}
use Rattle.records.proofs.Writing.{page_placed}
use Rattle.records.proofs.put.list.Goals as goal

pub loop-i-preserved : goal.loop-i-preserved
loop-i-preserved c =
    let turn = c.loop-i in
    (page_placed c.args.rest.now c.args.pages.now turn.rest c.write32.new.s turn.i (omega arith) c.requires turn.invariant c.write32.ensures).1
