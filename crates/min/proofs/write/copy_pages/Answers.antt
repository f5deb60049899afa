use native.Mathlib.Omega.{arith}
use mathlib.Core.List.{map}
use mathlib.Core.Path.{ap, ◌∙◌}
use lib.ListN.{length}
use lib.Seq.{take_all}
use Rattle.keys.specs.Keys.{page_of}
use Rattle.lists.proofs.Leaves.{over_none}
use Rattle.min.proofs.Written.{pages_turn, pages_done}
use Rattle.min.proofs.write.copy_pages.Goals as goal

pub loop-i-init : goal.loop-i-init
loop-i-init c = over_none _ _

pub loop-i-preserved : goal.loop-i-preserved
loop-i-preserved c =
    let turn = c.loop-i in
    pages_turn turn.i c.args.bundle.now c.args.pages.now turn.pages c.page_of.result (omega arith) (omega arith) turn.invariant c.page_of.ensures

pub returns : goal.returns
returns c =
    let bundle = c.args.bundle.now in
    pages_done c.loop-i.i (length bundle) bundle c.args.pages.now c.loop-i.pages (omega arith) (omega arith) c.loop-i.invariant
    ∙ ap (map page_of) (take_all (length bundle) bundle (omega arith))
