use Rattle.std.proofs.Common.{◌∙◌}
use Rattle.judge.proofs.ManyLaws.{known_held, known_fetched, known_not}
use Rattle.judge.proofs.many.known.Goals as goal

pub returns-then-has : goal.returns-then-has
returns-then-has c = c.if-has.true ∙ known_held _ _ _ c.if-has.ensures

pub returns-then-has-2 : goal.returns-then-has-2
returns-then-has-2 c = known_fetched _ _ _ _ c.if-has.ensures c.fetched.ensures

pub returns-else-has-2 : goal.returns-else-has-2
returns-else-has-2 c = c.if-has-2.false ∙ known_not _ _ _ _ c.requires.1 c.if-has.ensures c.if-has-2.ensures
