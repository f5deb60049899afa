use Prim.Native.Nat.{◌+◌, ◌-◌}
use mathlib.Core.Path.{◌≡◌}
use native.Mathlib.Omega.{arith}
use Rattle.layers.proofs.Reading.{present_next, present_bad}
use Rattle.layers.proofs.formed.present.Goals as goal

pub returns-then-sizes-i-eq0 : goal.returns-then-sizes-i-eq0
returns-then-sizes-i-eq0 c =
    let s = c.args.s in
    let sizes = c.args.sizes.now in
    let turn = c.loop-i in
    let i = turn.i in
    let inv = turn.invariant in
    let loop-test = c.loop-i-test in
    let back : i - 1 + 1 ≡ i = omega arith in
    present_bad s i sizes loop-test.true inv.1 (rw back at c.if-sizes-i-eq0.true)

pub loop-i-preserved : goal.loop-i-preserved
loop-i-preserved c =
    let s = c.args.s in
    let sizes = c.args.sizes.now in
    let turn = c.loop-i in
    let i = turn.i in
    let inv = turn.invariant in
    let loop-test = c.loop-i-test in
    let back : i - 1 + 1 ≡ i = omega arith in
    (omega arith, present_next s i sizes loop-test.true inv.1 (rw back at c.if-sizes-i-eq0.false))
