use borrow.Author.Tests.{ne_eqb}
use Rattle.layers.proofs.Reading.{zero_place, used_place}
use Rattle.layers.proofs.formed.used_or_zero.Goals as goal

pub returns-then-n-ne0 : goal.returns-then-n-ne0
returns-then-n-ne0 c = rw (ne_eqb c.args.n 0 c.if-n-ne0.true) (used_place c.args.n c.args.p c.if-n-ne0.true)

pub returns-else-n-ne0 : goal.returns-else-n-ne0
returns-else-n-ne0 c = zero_place c.args.n c.args.p c.if-n-ne0.false
