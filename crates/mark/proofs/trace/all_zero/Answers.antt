use Rattle.mark.proofs.Blank.{zero_start, zero_turn, zero_end}
use Rattle.mark.proofs.trace.all_zero.Goals as goal

pub loop-value-init : goal.loop-value-init
loop-value-init c = zero_start c.args.list.now

pub loop-value-preserved : goal.loop-value-preserved
loop-value-preserved c =
    let loop = c.loop-value in
    zero_turn loop.value-index loop.used c.args.list.now c.loop-value-test.true loop.invariant

pub returns : goal.returns
returns c =
    let loop = c.loop-value in
    zero_end loop.value-index loop.used c.args.list.now c.loop-value-test.false loop.invariant
