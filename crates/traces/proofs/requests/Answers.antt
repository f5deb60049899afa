use Rattle.std.proofs.Common.{rules, arith, ◌≡◌, Ok, Err, ap, ◌∙◌}
use Rattle.traces.proofs.CountLaws.{request_fact, too_many, counting_next, counted_damage, counted_else}
use Rattle.traces.proofs.requests.Goals as goal

pub returns-in_err-times : goal.returns-in_err-times
returns-in_err-times c =
    let e : c.from_residual.result ≡ Err c.in_err-times.field-0.0 = search rules in
    rw e (counted_damage _ _ _ _ c.loop-times.invariant _ c.trace.ensures _ c.in_err-times.was)

pub returns-then-more-most : goal.returns-then-more-most
returns-then-more-most c =
    let more = c.from-more.ensures in
    too_many _ _ _ _ c.loop-times.invariant _ c.trace.ensures _ _ _ (c.in_ok-times.was ∙ ap Ok c.in-Request.is) (rw more at c.if-more-most.true)

pub loop-times-smaller : goal.loop-times-smaller
loop-times-smaller c =
    let f = request_fact _ _ _ _ c.loop-times.invariant _ c.trace.ensures _ _ _ (c.in_ok-times.was ∙ ap Ok c.in-Request.is) in
    omega arith

pub loop-times-preserved : goal.loop-times-preserved
loop-times-preserved c =
    let more = c.from-more.ensures in
    let next = counting_next _ _ _ _ c.loop-times.invariant _ c.trace.ensures _ _ _ (c.in_ok-times.was ∙ ap Ok c.in-Request.is) (rw more at c.if-more-most.false) in
    rw (← more) at next

pub returns : goal.returns
returns c = counted_else _ _ _ _ c.loop-times.invariant _ c.trace.ensures _ c.in_ok-times.was c.in_default.not-Request
