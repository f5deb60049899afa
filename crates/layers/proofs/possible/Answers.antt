use native.Mathlib.Omega.{arith}
use mathlib.Core.Path.{◌≡◌, sym, ap, ◌∙◌}
use Rattle.std.specs.Prelude.{Err}
use Rattle.std.proofs.lemmas.Result.{err_from_is_err_and}
use Rattle.paging.specs.Numbers.{number_of}
use Rattle.paging.specs.Rows.{rows_of}
use Rattle.paging.specs.Table.{number_in}
use Rattle.layers.proofs.Asking.{possible_refused, possible_twice, possible_differs, possible_walked, tally_most, s_most}
use Rattle.paging.proofs.Numbers.{number_above}
use Rattle.layers.proofs.Refusing.{state_ready}
use Rattle.layers.proofs.possible.Goals as goal

pub returns-in_err-check_state : goal.returns-in_err-check_state
returns-in_err-check_state c =
    let args = c.args in
    let r = err_from_is_err_and c.from_residual.result c.from_residual.ensures.1 in
    let reason = c.in_err-check_state.field-0.0 in
    let e : c.from_residual.result ≡ Err reason = r.1 ∙ ap Err r.2 in
    rw e (possible_refused args.run args.pages.now args.numbers.now args.set.now (number_of reason) c.in_err-check_state.ensures (number_above reason))

pub returns-then-not-no_page_twice : goal.returns-then-not-no_page_twice
returns-then-not-no_page_twice c =
    let args = c.args in
    possible_twice args.run args.pages.now args.numbers.now args.set.now
    (state_ready args.run args.pages.now args.numbers.now (sym c.in_ok-check_state.ensures)) (sym c.no_page_twice.ensures ∙ c.if-not-no_page_twice.true)

pub returns-then-set-run : goal.returns-then-set-run
returns-then-set-run c =
    let args = c.args in
    possible_differs args.run args.pages.now args.numbers.now args.set.now
    (state_ready args.run args.pages.now args.numbers.now (sym c.in_ok-check_state.ensures)) (sym c.no_page_twice.ensures ∙ c.if-not-no_page_twice.false)
    c.if-set-run.true

pub tally_set-sizes-requires : goal.tally_set-sizes-requires
tally_set-sizes-requires c = (state_ready c.args.run c.args.pages.now c.args.numbers.now (sym c.in_ok-check_state.ensures)).even

pub first_broken-requires : goal.first_broken-requires
first_broken-requires c =
    let args = c.args in
    let tallied = c.tally_set-sizes in
    let m = s_most args.run args.pages.now args.numbers.now (state_ready args.run args.pages.now args.numbers.now (sym c.in_ok-check_state.ensures)) in
    (tallied.ensures.long, m, tally_most (number_in (rows_of args.numbers.now args.pages.now)) args.set.now tallied.result 256 tallied.ensures (omega arith))

pub returns : goal.returns
returns c =
    let args = c.args in
    let r = state_ready args.run args.pages.now args.numbers.now (sym c.in_ok-check_state.ensures) in
    possible_walked args.run args.pages.now args.numbers.now args.set.now r (sym c.no_page_twice.ensures ∙ c.if-not-no_page_twice.false)
    c.tally_set-sizes.result c.first_broken.result c.if-set-run.false (s_most args.run args.pages.now args.numbers.now r) c.tally_set-sizes.ensures c.first_broken.ensures
