-- `traces::fill` lists the requests only where nothing is refused: then they are all there, and there is room for them.
use Rattle.std.proofs.Common.{arith, refl}
use lib.ListN.{length-take}
use Rattle.traces.proofs.CallLaws.{all_there}
use Rattle.traces.proofs.fill.Goals as goal

pub slice_bounds-list-end : goal.slice_bounds-list-end
slice_bounds-list-end c =
    let all = all_there _ _ c.args.pages.now _ c.in_ok-told.ensures refl in
    omega arith

pub slice_bounds-list-end-2 : goal.slice_bounds-list-end-2
slice_bounds-list-end-2 c =
    let all = all_there _ _ c.args.pages.now _ c.in_ok-told.ensures refl in
    simp length-take (omega arith)

pub list-requires : goal.list-requires
list-requires c =
    let all = all_there _ _ c.args.pages.now _ c.in_ok-told.ensures refl in
    simp length-take (omega arith)
