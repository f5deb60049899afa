use native.Mathlib.Omega.{arith}
use mathlib.Core.Path.{◌≡◌, refl, sym, ap, ◌∙◌}
use Rattle.std.specs.Prelude.{Err}
use Rattle.std.proofs.Common.{rules, tests}
use Rattle.std.proofs.lemmas.Result.{err_from_is_err_and}
use Rattle.paging.specs.Numbers.{number_of}
use Rattle.paging.specs.declared.reasons.Refusal.TheVariants.{TableFull}
use Rattle.paging.proofs.Numbers.{number_above}
use Rattle.layers.proofs.Refusing.{err_mapped, ok_mapped, state_ready, sound, counters_fit, request_refused, request_state, request_last, request_full, request_served, pages_same, numbers_same}
use Rattle.layers.proofs.request.Goals as goal

pub returns-in_err-check_state : goal.returns-in_err-check_state
returns-in_err-check_state c =
    let args = c.args in
    let r = err_from_is_err_and c.from_residual.result c.from_residual.ensures.1 in
    let reason = c.in_err-check_state.field-0.0 in
    let e : c.from_residual.result ≡ Err reason = r.1 ∙ ap Err r.2 in
    let t = request_refused args.run args.pages.now args.numbers.now args.page (number_of reason)
    (request_state args.run args.pages.now args.numbers.now args.page (number_of reason) c.in_err-check_state.ensures (number_above reason)) (number_above reason) in
    (rw e t.0, t.1, t.2)

pub returns-then-run-eq-COUNTER_MAX : goal.returns-then-run-eq-COUNTER_MAX
returns-then-run-eq-COUNTER_MAX c =
    let args = c.args in
    request_refused args.run args.pages.now args.numbers.now args.page 12
    (request_last args.run args.pages.now args.numbers.now args.page (sym c.in_ok-check_state.ensures) c.if-run-eq-COUNTER_MAX.true) (λ e. omega arith)

pub step-served-requires : goal.step-served-requires
step-served-requires c =
    let args = c.args in
    let r = state_ready args.run args.pages.now args.numbers.now (sym c.in_ok-check_state.ensures) in
    (r.even, sound args.run args.pages.now args.numbers.now r)

pub returns-in_err-stepped : goal.returns-in_err-stepped
returns-in_err-stepped c =
    let args = c.args in
    let step = c.step-served in
    let r = err_from_is_err_and c.from_residual-in_err-stepped.result c.from_residual-in_err-stepped.ensures.1 in
    let full = err_mapped step.result c.in_err-stepped.field-0.0 _ c.in_err-stepped.ensures.cases in
    let reason : c.in_err-stepped.field-0.0 ≡ TableFull = search (rules, tests) in
    let e : c.from_residual-in_err-stepped.result ≡ Err TableFull = r.1 ∙ ap Err (r.2 ∙ reason) in
    let z = sym c.in_ok-check_state.ensures in
    let even = (state_ready args.run args.pages.now args.numbers.now z).even in
    let kept = request_full args.run args.pages.now args.numbers.now args.page z c.if-run-eq-COUNTER_MAX.false step.result _ full.0 step.ensures in
    let t = request_refused args.run args.pages.now args.numbers.now args.page 10 kept.0 (λ e. omega arith) in (
      rw e t.0,
      pages_same args.numbers.now args.pages.now step.new.numbers step.new.pages even (omega arith) kept.1 ∙ t.1,
      numbers_same args.numbers.now args.pages.now step.new.numbers step.new.pages even (omega arith) kept.1 ∙ t.2,
    )

pub counted-requires : goal.counted-requires
counted-requires c =
    let args = c.args in
    let more = c.if-run-eq-COUNTER_MAX.false in
    counters_fit args.run args.pages.now args.numbers.now (state_ready args.run args.pages.now args.numbers.now (sym c.in_ok-check_state.ensures)) (omega (arith, more))

pub returns : goal.returns
returns c =
    let args = c.args in
    let step = c.step-served in
    let z = sym c.in_ok-check_state.ensures in
    let even = (state_ready args.run args.pages.now args.numbers.now z).even in
    let t = request_served args.run args.pages.now args.numbers.now args.page z c.if-run-eq-COUNTER_MAX.false _ step.new.pages step.new.numbers
    (rw (ok_mapped step.result _ c.in_ok-stepped.stepped _ refl (λ _ h. h) c.in_ok-stepped.ensures.cases) at step.ensures) (omega arith) in
    (rw c.counted.ensures t.0, t.1, t.2)
