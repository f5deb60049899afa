use mathlib.Core.Path.{◌≡◌, ap, ◌∙◌}
use Rattle.std.specs.Prelude.{Err, None}
use Rattle.std.proofs.lemmas.Result.{err_from_is_err_and}
use Rattle.layers.proofs.Refusing.{none_left}
use Rattle.mark.proofs.Requests.{answer_refused, taken, step_ready, answer_ready, answer_full, count_small, answer_served}
use Rattle.mark.proofs.request.Goals as goal

pub returns-in_err-revealed : goal.returns-in_err-revealed
returns-in_err-revealed c =
    let r = err_from_is_err_and c.from_residual.result c.from_residual.ensures.1 in
    let reason = c.in_err-revealed.field-0.0 in
    let e : c.from_residual.result ≡ Err reason = r.1 ∙ ap Err r.2 in
    rw e (answer_refused _ _ _ _ reason c.in_err-revealed.ensures.refusal_told)

pub step-requires : goal.step-requires
step-requires c =
    let judged = c.in_ok-revealed.ensures in
    step_ready _ _ _ (taken c.args.run c.args.count _ c.args.page judged.refusal_told) _ _ c.find.ensures judged.passed.revealed_told judged.passed.more

pub returns-in_default : goal.returns-in_default
returns-in_default c =
    let none : c.step.result ≡ None = none_left _ c.in_default.not-Some in
    answer_full _ _ _ _ c.in_ok-revealed.ensures.refusal_told _ _ _ (rw none at c.step.ensures)

pub answered-requires : goal.answered-requires
answered-requires c =
    let judged = c.in_ok-revealed.ensures in (
      answer_ready _ _ _ (taken c.args.run c.args.count _ c.args.page judged.refusal_told) judged.passed.more,
      count_small _ _ _ c.args.page judged.refusal_told _ _ _ c.in-Some.stepped c.in-Some.ensures,
    )

pub returns : goal.returns
returns c = answer_served _ _ _ _ c.in_ok-revealed.ensures.refusal_told _ _ _ c.in-Some.stepped c.in-Some.ensures _ c.answered.ensures
