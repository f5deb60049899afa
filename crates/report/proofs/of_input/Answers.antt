use native.Mathlib.Omega.{arith}
use mathlib.Core.Path.{◌≡◌, refl}
use borrow.Author.Rules.{rules}
use lib.ListN.{length-take}
use Rattle.std.specs.Prelude.{Err}
use Rattle.paging.proofs.Numbers.{number_above}
use Rattle.report.proofs.FiguresLaws.{input_refused, input_right, input_figures}
use Rattle.report.proofs.Prefix.{read_enough}
use Rattle.report.proofs.of_input.Goals as goal

pub returns-in_err-told-clause-value : goal.returns-in_err-told-clause-value
returns-in_err-told-clause-value c =
    let e : c.from_residual.result ≡ Err c.in_err-told.field-0.0 = search rules in
    rw e (input_refused _ _ c.in_err-told.ensures.0 _ refl (number_above _))

pub returns-in_err-told-clause-read_enough : goal.returns-in_err-told-clause-read_enough
returns-in_err-told-clause-read_enough c =
    let e : c.from_residual.result ≡ Err c.in_err-told.field-0.0 = search rules in
    rw e (read_enough _ _ (input_refused _ _ c.in_err-told.ensures.0 _ refl (number_above _))).1

pub of-requires : goal.of-requires
of-requires c =
    let right = input_right _ _ c.in_ok-told.ensures.0 refl in
    (right.0, omega (arith, length-take c.in_ok-told.told.requests c.fill.new.pages, right.1))

pub returns-clause-value : goal.returns-clause-value
returns-clause-value c =
    input_figures _ _ c.in_ok-told.ensures.0 refl _ c.in_ok-told.ensures.1 _ c.of.ensures

pub returns-clause-read_enough : goal.returns-clause-read_enough
returns-clause-read_enough c =
    (read_enough _ _ (input_figures _ _ c.in_ok-told.ensures.0 refl _ c.in_ok-told.ensures.1 _ c.of.ensures)).1
