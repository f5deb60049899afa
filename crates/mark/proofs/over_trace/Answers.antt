use mathlib.Core.Path.{◌≡◌, ap, ◌∙◌}
use Rattle.std.specs.Prelude.{Err, None}
use Rattle.std.proofs.lemmas.Result.{err_from_is_err_and}
use Rattle.layers.proofs.Refusing.{none_left}
use Rattle.mark.proofs.Blank.{early_reason, trace_ready, over_full, over_done}
use Rattle.mark.proofs.over_trace.Goals as goal

pub returns-in_err-check : goal.returns-in_err-check
returns-in_err-check c =
    let r = err_from_is_err_and c.from_residual.result c.from_residual.ensures.1 in
    let reason = c.in_err-check.field-0.0 in
    let e : c.from_residual.result ≡ Err reason = r.1 ∙ ap Err r.2 in
    rw e (early_reason _ _ _ _ reason c.in_err-check.ensures)

pub serve_all-requires : goal.serve_all-requires
serve_all-requires c = trace_ready _ _ _ _ c.in_ok-check.ensures

pub returns-in_default : goal.returns-in_default
returns-in_default c =
    let served = c.serve_all in
    let none : served.result ≡ None = none_left _ c.in_default.not-Some in
    over_full _ _ _ _ c.in_ok-check.ensures _ _ _ _ _ _ _ (rw none at served.ensures)
    served.auto.pages served.auto.numbers served.auto.times c.clear.ensures.0 c.clear.ensures.1 c.clear.ensures.2

pub returns : goal.returns
returns c = over_done _ _ _ _ c.in_ok-check.ensures _ c.in-Some.totals c.in-Some.ensures
