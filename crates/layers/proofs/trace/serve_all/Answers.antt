use native.Mathlib.Omega.{arith}
use mathlib.Core.Path.{refl, sym}
use lib.ListN.{length-take, length-append, length-drop}
use Rattle.std.specs.Prelude.{Ok}
use Rattle.layers.proofs.Refusing.{ok_none, ok_some}
use Rattle.layers.proofs.TraceLaws.{nothing_served, too_full, goes_on, stepped_lists, filled_prefix}
use Rattle.layers.proofs.trace.serve_all.Goals as goal

pub loop-page-init : goal.loop-page-init
loop-page-init c =
    let pre = c.requires in
    (refl, sym pre.0, nothing_served _ _ _ _ _ pre.1 pre.3)

pub step-requires : goal.step-requires
step-requires c =
    let args = c.args in
    let turn = c.loop-page in
    let inv = turn.invariant in
    let least = c.min-m.ensures in
    (filled_prefix args.k args.a args.trace.now turn.s turn.joins turn.used turn.page-index _ c.min-m.result turn.numbers turn.pages inv.0 inv.1 inv.2 (omega arith), inv.2.sound)

pub returns-in_err-stepped : goal.returns-in_err-stepped
returns-in_err-stepped c =
    let args = c.args in
    let turn = c.loop-page in
    let inv = turn.invariant in
    let step = c.step in
    let least = c.min-m.ensures in
    rw c.from_residual.ensures
    (too_full _ _ _ _ _ _ _ _ _ inv.2 c.loop-page-test.true _ step.result
    (stepped_lists args.k args.a args.trace.now turn.s _ turn.joins turn.used turn.page-index _ c.min-m.result _ turn.numbers turn.pages step.new.numbers step.new.pages
    step.result inv.0 inv.1 inv.2 (omega arith) refl step.auto.pages step.auto.numbers step.ensures) (ok_none step.result (sym c.in_err-stepped.ensures.value)))

pub loop-page-preserved : goal.loop-page-preserved
loop-page-preserved c =
    let args = c.args in
    let turn = c.loop-page in
    let inv = turn.invariant in
    let step = c.step in
    let least = c.min-m.ensures in
    let l = step.auto.pages in
    let n = step.auto.numbers in (
      simp (length-append, length-drop) (omega (arith, simp length-take at l)),
      simp (length-append, length-drop) (omega (arith, simp length-take at l, simp length-take at n)),
      goes_on _ _ _ _ _ _ _ _ _ inv.2 c.loop-page-test.true _ c.in_ok-stepped.stepped
          (stepped_lists args.k args.a args.trace.now turn.s _ turn.joins turn.used turn.page-index _ c.min-m.result _ turn.numbers turn.pages step.new.numbers step.new.pages
          (Ok c.in_ok-stepped.stepped) inv.0 inv.1 inv.2 (omega arith) refl step.auto.pages step.auto.numbers
          (rw (ok_some step.result c.in_ok-stepped.stepped (sym c.in_ok-stepped.ensures.value)) at step.ensures))
          _ c.bundles-joins.ensures,
    )
