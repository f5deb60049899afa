use native.Mathlib.Omega.{arith}
use mathlib.Core.Path.{◌≡◌, sym, ap, ◌∙◌}
use Rattle.std.specs.Prelude.{Err}
use Rattle.std.proofs.lemmas.Result.{err_from_is_err_and}
use Rattle.paging.specs.Numbers.{refusal_of}
use Rattle.paging.proofs.Refusals.{sizes_right}
use Rattle.paging.proofs.Numbers.{number_above}
use Rattle.mark.proofs.Refusals.{room, judged_sizes, judged_lists, judged_record, judged_buffer, judged_layers, judged_times, judged_last, judged_none}
use Rattle.mark.proofs.refusing.judge.Goals as goal
use Rattle.mark.proofs.refusing.judge.Goals.{then-not-record_formed-via-then-not-record_formed, then-not-record_formed-via-else-not-record_formed+then-not-buffer_formed}

pub returns-in_err-check : goal.returns-in_err-check
returns-in_err-check c =
    let r = err_from_is_err_and c.from_residual.result c.from_residual.ensures.1 in
    let reason = c.in_err-check.field-0.0 in
    let e : c.from_residual.result ≡ Err reason = r.1 ∙ ap Err r.2 in
    rw e (judged_sizes _ _ _ reason c.in_err-check.ensures)

pub returns-then-refused : goal.returns-then-refused
returns-then-refused c =
    let right = sizes_right _ _ (sym c.in_ok-check.ensures) in
    judged_lists _ _ _ right (sym c.if-refused.true ∙ c.refused.ensures)

pub buffer_formed-requires : goal.buffer_formed-requires
buffer_formed-requires c =
    let right = sizes_right _ _ (sym c.in_ok-check.ensures) in
    let R = room c.args.run c.args.count _ right (sym c.if-refused.false ∙ c.refused.ensures) in
    (R.cache_room, omega (arith, R.cache_room, R.marks_even))

pub returns-then-not-record_formed : goal.returns-then-not-record_formed
returns-then-not-record_formed c =
    let right = sizes_right _ _ (sym c.in_ok-check.ensures) in
    let roomy = sym c.if-refused.false ∙ c.refused.ensures in
    elim c.then-not-record_formed.branch [
      | then-not-record_formed-via-then-not-record_formed w ↦ judged_record _ _ _ right roomy (sym w.if-not-record_formed.true ∙ c.record_formed.ensures)
      | then-not-record_formed-via-else-not-record_formed+then-not-buffer_formed w ↦ judged_buffer _ _ _ right roomy (sym w.if-not-buffer_formed.true ∙ w.buffer_formed.ensures)
    ]

pub returns-in_default : goal.returns-in_default
returns-in_default c =
    let right = sizes_right _ _ (sym c.in_ok-check.ensures) in
    let roomy = sym c.if-refused.false ∙ c.refused.ensures in
    judged_layers _ _ _ right roomy (sym c.if-not-record_formed.false ∙ c.record_formed.ensures) _ c.revealed.ensures
    (λ z. number_above c.in_default.field-0 (sym (ap refusal_of c.in_default.is) ∙ z))

pub times_formed-requires : goal.times_formed-requires
times_formed-requires c =
    let right = sizes_right _ _ (sym c.in_ok-check.ensures) in
    let R = room c.args.run c.args.count _ right (sym c.if-refused.false ∙ c.refused.ensures) in
    R.times_even ∙ sym R.numbers_even

pub returns-then-not-times_formed : goal.returns-then-not-times_formed
returns-then-not-times_formed c =
    let right = sizes_right _ _ (sym c.in_ok-check.ensures) in
    let roomy = sym c.if-refused.false ∙ c.refused.ensures in
    judged_times _ _ _ right roomy (sym c.if-not-record_formed.false ∙ c.record_formed.ensures) _ c.revealed.ensures (sym c.if-not-times_formed.true ∙ c.times_formed.ensures)

pub returns-then-run-eq-COUNTER_MAX : goal.returns-then-run-eq-COUNTER_MAX
returns-then-run-eq-COUNTER_MAX c =
    let right = sizes_right _ _ (sym c.in_ok-check.ensures) in
    let roomy = sym c.if-refused.false ∙ c.refused.ensures in
    judged_last _ _ _ right roomy (sym c.if-not-record_formed.false ∙ c.record_formed.ensures) _ c.revealed.ensures
    (sym c.if-not-buffer_formed.false ∙ c.buffer_formed.ensures) _ c.in-Ok.is (sym c.if-not-times_formed.false ∙ c.times_formed.ensures) c.if-run-eq-COUNTER_MAX.true

pub returns : goal.returns
returns c =
    let right = sizes_right _ _ (sym c.in_ok-check.ensures) in
    let roomy = sym c.if-refused.false ∙ c.refused.ensures in
    let last = c.if-run-eq-COUNTER_MAX.false in
    judged_none _ _ _ right roomy (sym c.if-not-record_formed.false ∙ c.record_formed.ensures) _ c.revealed.ensures
    (sym c.if-not-buffer_formed.false ∙ c.buffer_formed.ensures) _ c.in-Ok.is (sym c.if-not-times_formed.false ∙ c.times_formed.ensures) (omega (arith, last))
