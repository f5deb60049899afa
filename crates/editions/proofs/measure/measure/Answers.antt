use Rattle.std.proofs.Common.{rules, arith, ◌≡◌, Ok, Err, ap, ◌∙◌}
use Rattle.traces.proofs.CountLaws.{request_fact}
use Rattle.editions.proofs.MeasureLaws.{size_fits, measured_too_many, measuring_next, measured_all, measured_damage}
use Rattle.editions.proofs.measure.measure.Goals as goal

pub returns-in_err-page : goal.returns-in_err-page
returns-in_err-page c =
    let e : c.from_residual.result ≡ Err c.in_err-page.field-0.0 = search rules in
    rw e (measured_damage _ _ _ _ _ c.loop-page.invariant _ c.trace.ensures _ c.in_err-page.was)

pub returns-then-more-most : goal.returns-then-more-most
returns-then-more-most c =
    let found = c.in_ok-page.was ∙ ap Ok c.in-Request.is in
    measured_too_many _ _ _ _ _ c.loop-page.invariant _ c.trace.ensures _ _ _ found (rw c.from-more.ensures at c.if-more-most.true)

pub with_record-last-requires : goal.with_record-last-requires
with_record-last-requires c =
    let found = c.in_ok-page.was ∙ ap Ok c.in-Request.is in
    let inv = c.loop-page.invariant in
    let fact = request_fact _ _ _ _ inv.counting _ c.trace.ensures _ _ _ found in
    (inv.few, size_fits _ _ _ _ _ inv c.requires, rw c.from.ensures fact.some, omega arith)

pub loop-page-smaller : goal.loop-page-smaller
loop-page-smaller c =
    let found = c.in_ok-page.was ∙ ap Ok c.in-Request.is in
    let fact = request_fact _ _ _ _ c.loop-page.invariant.counting _ c.trace.ensures _ _ _ found in
    omega arith

pub loop-page-preserved : goal.loop-page-preserved
loop-page-preserved c =
    let found = c.in_ok-page.was ∙ ap Ok c.in-Request.is in
    rw c.from-more.ensures
    (measuring_next _ _ _ _ _ c.loop-page.invariant _ c.trace.ensures _ _ _ found (rw c.from-more.ensures at c.if-more-most.false) c.with_record-last.result
    (rw c.from.ensures at c.with_record-last.ensures))

pub returns : goal.returns
returns c = measured_all _ _ _ _ _ c.loop-page.invariant _ c.trace.ensures _ c.in_ok-page.was c.in_default.not-Request _ c.last_length.ensures
