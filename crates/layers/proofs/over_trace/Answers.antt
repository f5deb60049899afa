use Prim.Native.Nat.{ℕ}
use mathlib.Core.Path.{◌≡◌, ap, ◌∙◌}
use Rattle.std.specs.Prelude.{Err, None}
use Rattle.std.proofs.lemmas.Result.{err_from_is_err_and}
use Rattle.paging.specs.Numbers.{number_of}
use Rattle.layers.proofs.OverLaws.{over_early, serve_ready, over_full, s_small, over_done}
use Rattle.paging.proofs.Numbers.{number_above}
use Rattle.layers.proofs.Refusing.{none_left}
use Rattle.layers.proofs.over_trace.Goals as goal

pub returns-in_err-check : goal.returns-in_err-check
returns-in_err-check c =
    let args = c.args in
    let r = err_from_is_err_and c.from_residual.result c.from_residual.ensures.1 in
    let reason = c.in_err-check.field-0.0 in
    let e : c.from_residual.result ≡ Err reason = r.1 ∙ ap Err r.2 in
    let z = over_early args.k args.a args.trace.now args.pages.now args.numbers.now (number_of reason) c.in_err-check.ensures (number_above reason) in
    (rw e z.0, z.1, z.2)

pub serve_all-requires : goal.serve_all-requires
serve_all-requires c = serve_ready c.args.k c.args.a c.args.trace.now c.args.pages.now c.args.numbers.now c.in_ok-check.ensures

pub returns-in_default : goal.returns-in_default
returns-in_default c =
    let args = c.args in
    let served = c.serve_all in
    let none : served.result ≡ None = none_left _ c.in_default.not-Some in
    let same = λ (y : ℕ) (e : y ≡ 0). e in
    over_full args.k args.a args.trace.now args.pages.now args.numbers.now c.in_ok-check.ensures served.new.pages served.new.numbers _ _ _ _ (rw none at served.ensures)
    served.auto.pages served.auto.numbers (c.fill.ensures.after same) (c.fill-in_default.ensures.after same)

pub singles_at_top-requires : goal.singles_at_top-requires
singles_at_top-requires c =
    let args = c.args in
    let served = c.serve_all in
    s_small args.k args.a args.trace.now args.pages.now args.numbers.now c.in_ok-check.ensures served.new.pages served.new.numbers _ c.in-Some.ensures

pub returns : goal.returns
returns c =
    let args = c.args in
    let served = c.serve_all in
    over_done args.k args.a args.trace.now args.pages.now args.numbers.now c.in_ok-check.ensures served.new.pages served.new.numbers _ c.in-Some.ensures
    _ served.auto.pages served.auto.numbers c.singles_at_top.ensures
