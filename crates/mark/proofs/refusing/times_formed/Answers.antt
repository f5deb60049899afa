use Rattle.mark.proofs.Formed.{times_start, times_turn, times_end}
use Rattle.mark.proofs.refusing.times_formed.Goals as goal

pub loop-i-init : goal.loop-i-init
loop-i-init c = times_start c.args.t c.args.numbers.now c.args.times.now

pub loop-i-preserved : goal.loop-i-preserved
loop-i-preserved c =
    let loop = c.loop-i in
    times_turn _ loop.i loop.bad _ _ c.requires c.loop-i-test.true loop.invariant

pub returns : goal.returns
returns c =
    let loop = c.loop-i in
    times_end _ loop.i loop.bad _ _ c.requires c.loop-i-test.false loop.invariant
