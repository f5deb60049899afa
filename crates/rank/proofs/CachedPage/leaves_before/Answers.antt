use mathlib.Core.Path.{◌∙◌}
use Rattle.marking.specs.Marking.{cached_at}
use Rattle.rank.proofs.Ranks.{fields_in_order}
use Rattle.rank.proofs.CachedPage.leaves_before.Goals as goal

pub returns : goal.returns
returns c = c.lt.ensures ∙ fields_in_order (cached_at c.args.self.page c.args.self.mark c.args.self.priority)
    (cached_at c.args.other.page c.args.other.mark c.args.other.priority)
