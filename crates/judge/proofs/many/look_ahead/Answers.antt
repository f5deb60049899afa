use Rattle.judge.proofs.ManyLaws.{ahead_is}
use Rattle.judge.proofs.many.look_ahead.Goals as goal

pub returns-then-own-t : goal.returns-then-own-t
returns-then-own-t c =
    let e = c.in-Ok-Fetch.ensures in
    ahead_is _ _ _ _ c.in-Ok-Fetch.own _ _ (rw c.in-Ok-Fetch.field-0-is at e) c.if-own-t.true
