use mathlib.Core.Path.{◌≡◌, sym, ap, ◌∙◌}
use Rattle.std.specs.Prelude.{Err}
use Rattle.std.proofs.lemmas.Result.{err_from_is_err_and}
use Rattle.paging.specs.Numbers.{number_of}
use Rattle.layers.proofs.Asking.{revealed_refused, revealed_told, s_most}
use Rattle.paging.proofs.Numbers.{number_above}
use Rattle.layers.proofs.Refusing.{state_ready}
use Rattle.layers.proofs.revealed.Goals as goal

pub returns-in_err-check_state : goal.returns-in_err-check_state
returns-in_err-check_state c =
    let args = c.args in
    let r = err_from_is_err_and c.from_residual.result c.from_residual.ensures.1 in
    let reason = c.in_err-check_state.field-0.0 in
    let e : c.from_residual.result ≡ Err reason = r.1 ∙ ap Err r.2 in
    rw e
    (record {
      reply = revealed_refused args.run args.pages.now args.numbers.now (number_of reason) c.in_err-check_state.ensures (number_above reason);
      places = tt;
    })

pub singles_at_top-requires : goal.singles_at_top-requires
singles_at_top-requires c = s_most c.args.run c.args.pages.now c.args.numbers.now (state_ready c.args.run c.args.pages.now c.args.numbers.now (sym c.in_ok-check_state.ensures))

pub returns : goal.returns
returns c =
    let args = c.args in
    revealed_told args.run args.pages.now args.numbers.now _ (state_ready args.run args.pages.now args.numbers.now (sym c.in_ok-check_state.ensures)) c.singles_at_top.ensures
