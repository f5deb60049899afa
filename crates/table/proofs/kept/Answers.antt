use native.Mathlib.Omega.{arith}
use mathlib.Core.Bool.{not, ◌&&◌}
use lib.Dec.{eqb, ltb}
use lib.ListN.{get_or}
use Rattle.lists.proofs.Leaves.{byte_one}
use Rattle.table.proofs.Serving.{kept_next, kept_end}
use Rattle.table.proofs.kept.Goals as goal

pub loop-i-preserved : goal.loop-i-preserved
loop-i-preserved c =
    let args = c.args in
    let i = c.loop-i.i in
    let lost = c.lost-most in
    let told = c.from-n.ensures in
    let one = byte_one (not (eqb (get_or args.pages.now i 0) args.change.page) && ltb lost.result (get_or args.numbers.now i 0)) in
    let small = c.type_inv.numbers i in (
      omega arith,
      rw told
          (kept_next args.change args.numbers.now args.pages.now i c.loop-i.n lost.result c.requires c.loop-i-test.true
          (lost.ensures.told (get_or args.numbers.now i 0) (omega arith)) c.loop-i.invariant.1),
    )

pub returns : goal.returns
returns c =
    let args = c.args in
    kept_end args.change args.numbers.now args.pages.now c.loop-i.i _ c.requires c.loop-i-test.false c.loop-i.invariant.1
