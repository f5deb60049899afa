use mathlib.Core.Path.{refl, ◌∙◌}
use Rattle.mark.proofs.Tracing.{tracing_begin, tracing_full, tracing_next, tracing_end}
use Rattle.mark.proofs.trace.serve_buffered.Goals as goal

pub loop-page-init : goal.loop-page-init
loop-page-init c = (refl, refl, refl, refl, refl, refl, refl, tracing_begin _ _ _ _ _ _ _ _ c.requires refl refl refl refl)

pub returns-in_err-stepped : goal.returns-in_err-stepped
returns-in_err-stepped c =
    rw c.from_residual.ensures (tracing_full _ _ _ _ _ _ _ _ _ c.loop-page.invariant.7 c.loop-page-test.true _ c.in_err-stepped.ensures _ _ refl)

pub loop-page-preserved : goal.loop-page-preserved
loop-page-preserved c =
    let inv = c.loop-page.invariant in
    let kept = c.step.auto in (
      kept.cache ∙ inv.0,
      kept.marks ∙ inv.1,
      kept.priorities ∙ inv.2,
      kept.evicted ∙ inv.3,
      kept.pages ∙ inv.4,
      kept.numbers ∙ inv.5,
      kept.times ∙ inv.6,
      tracing_next _ _ _ _ _ _ _ _ _ inv.7 c.loop-page-test.true _ c.in_ok-stepped.stepped c.in_ok-stepped.ensures c.requires.short _ _
          c.bundles-bundles.ensures c.loads-loads.ensures kept.evicted,
    )

pub returns : goal.returns
returns c = tracing_end _ _ _ _ _ _ _ _ _ c.loop-page.invariant.7 _ refl c.loop-page-test.false
