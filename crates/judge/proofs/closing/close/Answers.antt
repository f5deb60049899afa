use Rattle.std.proofs.Common.{refl}
use Rattle.judge.proofs.ClosingLaws.{closes_next}
use Rattle.judge.proofs.closing.close.Goals as goal

pub loop-done-preserved : goal.loop-done-preserved
loop-done-preserved c =
    closes_next _ _ _ _ _ _ _ _ c.next_request-request.result.page c.next_request-request.result.left c.loop-done.invariant c.loop-done-test.true
    c.next_request-request.ensures.1 c.add.new.self c.next_request-request.ensures.0 c.if-not-add.ensures.fits (c.if-not-add.ensures.added refl)
