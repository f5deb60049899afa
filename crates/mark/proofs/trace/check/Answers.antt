use mathlib.Core.Path.{◌≡◌, sym, ap, ◌∙◌}
use Rattle.std.specs.Prelude.{Err}
use Rattle.std.proofs.lemmas.Result.{err_from_is_err_and}
use Rattle.paging.specs.Numbers.{number_of}
use Rattle.lists.proofs.Choice.{and_false_l, and_false_r}
use Rattle.paging.proofs.Numbers.{number_above}
use Rattle.mark.proofs.Blank.{early_trace, early_numbers, early_times, early_used, early_none}
use Rattle.mark.proofs.trace.check.Goals as goal
use Rattle.mark.proofs.trace.check.Goals.{then-numbers-pages-via-then-numbers-pages, then-numbers-pages-via-else-numbers-pages+then-times-pages}
use Rattle.mark.proofs.trace.check.Goals.{then-not-all_zero-via-then-not-all_zero}
use Rattle.mark.proofs.trace.check.Goals.{then-not-all_zero-via-else-not-all_zero+then-not-all_zero-2}
use Rattle.mark.proofs.trace.check.Goals.{then-not-all_zero-via-else-not-all_zero+else-not-all_zero-2+then-not-all_zero-3}

pub returns-in_err-check_trace : goal.returns-in_err-check_trace
returns-in_err-check_trace c =
    let r = err_from_is_err_and c.from_residual.result c.from_residual.ensures.1 in
    let reason = c.in_err-check_trace.field-0.0 in
    let e : c.from_residual.result ≡ Err reason = r.1 ∙ ap Err r.2 in
    rw e (early_trace _ _ _ _ (number_of reason) c.in_err-check_trace.ensures (number_above reason))

pub returns-then-numbers-pages : goal.returns-then-numbers-pages
returns-then-numbers-pages c =
    elim c.then-numbers-pages.branch [
      | then-numbers-pages-via-then-numbers-pages w ↦ early_numbers _ _ _ _ c.in_ok-check_trace.ensures w.if-numbers-pages.true
      | then-numbers-pages-via-else-numbers-pages+then-times-pages w ↦ early_times _ _ _ _ c.in_ok-check_trace.ensures w.if-times-pages.true
    ]

pub returns-then-not-all_zero : goal.returns-then-not-all_zero
returns-then-not-all_zero c =
    let used = early_used c.args.k c.args.a c.args.trace.now _ c.in_ok-check_trace.ensures c.if-numbers-pages.false c.if-times-pages.false in
    elim c.then-not-all_zero.branch [
      | then-not-all_zero-via-then-not-all_zero w ↦ used (and_false_l _ _ (sym c.all_zero.ensures ∙ w.if-not-all_zero.true))
      | then-not-all_zero-via-else-not-all_zero+then-not-all_zero-2 w ↦
          used (and_false_r _ _ (and_false_l _ _ (sym w.all_zero-else-not-all_zero.ensures ∙ w.if-not-all_zero-2.true)))
      | then-not-all_zero-via-else-not-all_zero+else-not-all_zero-2+then-not-all_zero-3 w ↦
          used (and_false_r _ _ (and_false_r _ _ (sym w.all_zero-else-not-all_zero-2.ensures ∙ w.if-not-all_zero-3.true)))
    ]

pub returns : goal.returns
returns c =
    early_none _ _ _ _ c.in_ok-check_trace.ensures c.if-numbers-pages.false c.if-times-pages.false
    (sym c.if-not-all_zero.ensures) (sym c.if-not-all_zero-2.ensures) (sym c.if-not-all_zero-3.ensures)
