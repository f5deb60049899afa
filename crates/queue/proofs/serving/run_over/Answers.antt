use native.Mathlib.Omega.{arith}
use mathlib.Core.Path.{◌∙◌}
use Rattle.queue.proofs.Steps.{stands_next}
use Rattle.queue.proofs.serving.run_over.Goals as goal

pub loop-page-preserved : goal.loop-page-preserved
loop-page-preserved c =
    let inv = c.loop-page.invariant in
    let step = c.step-reply in (
      step.auto.cache ∙ inv.0,
      (
        step.auto.evicted ∙ inv.1.0,
        stands_next c.args.keeping c.args.k c.args.a c.args.trace.now c.loop-page.page-index _ _ _ _ _
            inv.1.1 c.loop-page-test.true (omega (arith, c.requires.sizes.k_high)) step.ensures.0 step.ensures.1.0,
      ),
    )
