use mathlib.Core.Path.{◌∙◌}
use borrow.Author.Tests.{le-ltb}
use Rattle.rank.proofs.Ranks.{revealed_at, revealed_past}
use Rattle.rank.proofs.is_revealed.Goals as goal

pub returns-then-at-used : goal.returns-then-at-used
returns-then-at-used c = revealed_at _ _ _ c.if-at-used.true

pub returns-else-at-used : goal.returns-else-at-used
returns-else-at-used c = le-ltb _ _ c.if-at-used.false ∙ revealed_past _ _ _ c.if-at-used.false
