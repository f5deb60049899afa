use mathlib.Core.Path.{refl, ◌∙◌}
use Rattle.mark.proofs.WholeBundles.{unkept_begin, unkept_full, unkept_next, unkept_end}
use Rattle.mark.proofs.trace.serve_whole_bundles.Goals as goal

pub loop-page-init : goal.loop-page-init
loop-page-init c = (refl, refl, refl, unkept_begin _ _ _ c.requires)

pub returns-in_err-moved : goal.returns-in_err-moved
returns-in_err-moved c =
    rw c.from_residual.ensures (unkept_full _ _ _ _ _ _ _ _ c.loop-page.invariant.3 c.loop-page-test.true _ _ _ c.in_err-moved.ensures _ _ refl)

pub loop-page-preserved : goal.loop-page-preserved
loop-page-preserved c =
    let inv = c.loop-page.invariant in
    let kept = c.advance.auto in (
      kept.pages ∙ inv.0,
      kept.numbers ∙ inv.1,
      kept.times ∙ inv.2,
      unkept_next _ _ _ _ _ _ _ _ inv.3 c.loop-page-test.true _ _ _ c.in_ok-moved.moved c.in_ok-moved.ensures c.requires.short
          c.whole_outcome-outcome.result _ _ c.whole_outcome-outcome.ensures c.bundles-bundles.ensures c.loads-loads.ensures,
    )

pub returns : goal.returns
returns c = unkept_end _ _ _ _ _ _ _ _ c.loop-page.invariant.3 _ refl c.loop-page-test.false
