use mathlib.Core.Path.{sym}
use Rattle.layers.proofs.Refusing.{ok_none, ok_some}
use Rattle.mark.proofs.Advancing.{timed_ready, few_shown, advanced_none, advanced}
use Rattle.mark.proofs.serving.advance.Goals as goal

pub step-requires : goal.step-requires
step-requires c = timed_ready _ _ _ _ _ c.requires _ c.find-at.ensures

pub returns-in_err-moved : goal.returns-in_err-moved
returns-in_err-moved c =
    rw c.from_residual.ensures
    (advanced_none _ _ _ _ _ c.requires _ c.find-at.ensures _ c.is_revealed-revealed.ensures _ c.time_after-t.ensures _ c.t0_of.ensures _ c.priority-priority.ensures
    _ _ _ c.step.result (ok_none c.step.result (sym c.in_err-moved.ensures.value)) c.step.ensures)

pub revealed_after-requires : goal.revealed_after-requires
revealed_after-requires c = few_shown _ _ c.args.page _ _ c.requires

pub returns : goal.returns
returns c =
    advanced _ _ _ _ _ c.requires _ c.find-at.ensures _ c.is_revealed-revealed.ensures _ c.time_after-t.ensures _ c.t0_of.ensures _ c.priority-priority.ensures
    _ _ _ c.in_ok-moved.moved (rw (ok_some c.step.result c.in_ok-moved.moved (sym c.in_ok-moved.ensures.value)) at c.step.ensures) _ c.clears.ensures _ c.revealed_after.ensures
