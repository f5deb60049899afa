use Prim.Native.Nat.{◌-◌}
use native.Mathlib.Omega.{arith}
use mathlib.Core.Path.{sym, ◌∙◌}
use lib.ListN.{length}
use borrow.Author.Rules.{rules}
use Rattle.next_use.proofs.Chains.{walk_starts, last_le, last_low, next}
use Rattle.next_use.proofs.walk.Goals as goal

pub loop-s-init : goal.loop-s-init
loop-s-init c =
    let trace = c.args.trace.now in
    let pre = c.requires in
    let e = pre.chained.ends c.args.c pre.half in (
      omega (arith, e, last_le c.args.c (length trace) trace),
      (
        λ t h. last_low c.args.c (length trace) t trace (sym e ∙ h),
        rw e (walk_starts c.args.c trace c.args.seen.now c.args.lefts.now pre.half pre.filled),
      ),
    )

pub loop-s-smaller : goal.loop-s-smaller
loop-s-smaller c =
    let pre = c.requires in
    let turn = c.loop-s in
    let inv = turn.invariant in
    let b = c.type_inv.trace (turn.s - 1) in
    (next c.args.c turn.s c.told.result c.args.trace.now c.args.heads.now c.args.before.now turn.seen turn.lefts pre.half pre.chained inv.1.1
    c.loop-s-test.true inv.0 inv.1.0 (omega (arith, b)) (omega (arith, pre.room)) (search rules) c.told.ensures).0

pub loop-s-preserved : goal.loop-s-preserved
loop-s-preserved c =
    let pre = c.requires in
    let turn = c.loop-s in
    let inv = turn.invariant in
    let b = c.type_inv.trace (turn.s - 1) in
    let n = next c.args.c turn.s c.told.result c.args.trace.now c.args.heads.now c.args.before.now turn.seen turn.lefts pre.half pre.chained inv.1.1
    c.loop-s-test.true inv.0 inv.1.0 (omega (arith, b)) (omega (arith, pre.room)) (search rules) c.told.ensures in
    (omega (arith, n.0), n.1)
