use borrow.Author.Tests.{eq-eqb}
use Rattle.layers.proofs.Reading.{follow_zero, follow_none, follow_row}
use Rattle.layers.proofs.formed.may_follow.Goals as goal

pub returns-then-m-eq0 : goal.returns-then-m-eq0
returns-then-m-eq0 c = follow_zero c.args.n c.args.p c.args.m c.args.q c.if-m-eq0.true

pub returns-then-n-ne0 : goal.returns-then-n-ne0
returns-then-n-ne0 c = follow_row c.args.n c.args.p c.args.m c.args.q _ c.if-m-eq0.false c.if-n-ne0.true c.row_before.ensures

pub returns-else-n-ne0 : goal.returns-else-n-ne0
returns-else-n-ne0 c = rw (eq-eqb c.args.n 0 c.if-n-ne0.false) (follow_none c.args.n c.args.p c.args.m c.args.q c.if-m-eq0.false c.if-n-ne0.false)
