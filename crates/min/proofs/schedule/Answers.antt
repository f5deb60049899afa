use mathlib.Core.Path.{◌≡◌, ap, ◌∙◌}
use borrow.Author.Rules.{rules}
use Rattle.std.specs.Prelude.{Err}
use Rattle.std.proofs.lemmas.Result.{err_from_is_err_and}
use Rattle.min.proofs.Refused.{accepted, schedule_refused, schedule_passes}
use Rattle.min.proofs.schedule.Goals as goal

pub returns-in_err-check_trace : goal.returns-in_err-check_trace
returns-in_err-check_trace c =
    let r = err_from_is_err_and c.from_residual.result c.from_residual.ensures.1 in
    let e : c.from_residual.result ≡ Err c.in_err-check_trace.field-0.0 = r.1 ∙ ap Err r.2 in
    rw e (schedule_refused c.args.k c.args.a c.args.trace.now c.args.out.now _ c.in_err-check_trace.ensures)

pub scheduled-requires : goal.scheduled-requires
scheduled-requires c =
    accepted c.args.k c.args.a c.args.trace.now _ c.in_ok-check_trace.ensures (search rules)

pub returns : goal.returns
returns c =
    schedule_passes c.args.k c.args.a c.args.trace.now c.args.out.now c.scheduled.new.out _ c.in_ok-check_trace.ensures c.scheduled.ensures
