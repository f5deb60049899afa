-- `least_recent::preview` meets its contract: what a preview promises of either way of keeping the list, it promises of this one.
use Rattle.paging.specs.declared.Keeping.TheVariants.{ByRequest}
use Rattle.least_recent.proofs.preview.Goals as goal

pub returns : goal.returns
returns c = c.preview.ensures ByRequest
