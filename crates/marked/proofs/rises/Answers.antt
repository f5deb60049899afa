use native.Mathlib.Omega.{arith}
use mathlib.Core.Path.{ap, ◌∙◌}
use lib.Seq.{take_all}
use Rattle.marking.specs.Lists.{rising}
use Rattle.marked.proofs.Forms.{rising_one, rises_turn}
use Rattle.marked.proofs.rises.Goals as goal

pub loop-i-init : goal.loop-i-init
loop-i-init c = rising_one c.args.pages.now

pub loop-i-preserved : goal.loop-i-preserved
loop-i-preserved c =
    let at = c.loop-i in
    rises_turn c.args.pages.now at.i at.fine (omega arith) c.loop-i-test.true at.invariant

pub returns : goal.returns
returns c = c.loop-i.invariant ∙ ap rising (take_all c.loop-i.i c.args.pages.now (omega arith))
