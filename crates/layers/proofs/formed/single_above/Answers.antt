use Prim.Native.Nat.{◌+◌, ◌-◌}
use mathlib.Core.Path.{◌≡◌}
use native.Mathlib.Omega.{arith}
use Rattle.layers.proofs.Reading.{single_next, single_bad, single_end}
use Rattle.layers.proofs.formed.single_above.Goals as goal

pub returns-then-sizes-i-gt1 : goal.returns-then-sizes-i-gt1
returns-then-sizes-i-gt1 c =
    let limit = c.args.limit in
    let s = c.args.s in
    let sizes = c.args.sizes.now in
    let turn = c.loop-i in
    let i = turn.i in
    let inv = turn.invariant in
    let loop-test = c.loop-i-test in
    let back : i - 1 + 1 ≡ i = omega arith in
    single_bad limit s i sizes loop-test.true inv.1 (rw back at c.if-sizes-i-gt1.true)

pub loop-i-preserved : goal.loop-i-preserved
loop-i-preserved c =
    let limit = c.args.limit in
    let s = c.args.s in
    let sizes = c.args.sizes.now in
    let turn = c.loop-i in
    let i = turn.i in
    let inv = turn.invariant in
    let loop-test = c.loop-i-test in
    let back : i - 1 + 1 ≡ i = omega arith in
    (omega arith, single_next limit s i sizes loop-test.true inv.1 (rw back at c.if-sizes-i-gt1.false))

pub returns : goal.returns
returns c =
    let limit = c.args.limit in
    let s = c.args.s in
    let sizes = c.args.sizes.now in
    single_end limit s c.loop-i.i sizes c.loop-i-test.false c.loop-i.invariant.1
