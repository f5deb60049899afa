use native.Mathlib.Omega.{arith}
use mathlib.Core.Path.{sym, ◌∙◌}
use borrow.Author.Tests.{eqb-false}
use Rattle.layers.proofs.Reading.{order_first, order_first_bad, order_next, order_bad, order_end}
use Rattle.layers.proofs.formed.in_order.Goals as goal

pub returns-then-not-used_or_zero : goal.returns-then-not-used_or_zero
returns-then-not-used_or_zero c =
    let some = eqb-false _ _ (sym c.is_empty.ensures ∙ c.if-is_empty.false) in
    order_first_bad c.args.numbers.now c.args.pages.now c.requires _ (omega arith) c.used_or_zero.ensures c.if-not-used_or_zero.true

pub loop-i-init : goal.loop-i-init
loop-i-init c =
    let some = eqb-false _ _ (sym c.is_empty.ensures ∙ c.if-is_empty.false) in
    order_first c.args.numbers.now c.args.pages.now c.requires _ (omega arith) c.used_or_zero.ensures c.if-not-used_or_zero.false

pub returns-then-not-may_follow : goal.returns-then-not-may_follow
returns-then-not-may_follow c =
    order_bad c.args.numbers.now c.args.pages.now c.requires c.loop-i.i c.loop-i-test.true _ c.may_follow.ensures c.loop-i.invariant c.if-not-may_follow.true

pub loop-i-preserved : goal.loop-i-preserved
loop-i-preserved c =
    order_next c.args.numbers.now c.args.pages.now c.requires c.loop-i.i c.loop-i-test.true _ c.may_follow.ensures c.loop-i.invariant c.if-not-may_follow.false

pub returns : goal.returns
returns c =
    order_end c.args.numbers.now c.args.pages.now c.requires c.loop-i.i _ c.loop-i-test.false c.loop-i.invariant
