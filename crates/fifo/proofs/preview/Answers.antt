-- `fifo::preview` meets its contract: what a preview promises of either way of keeping the list, it promises of this one.
use Rattle.paging.specs.declared.Keeping.TheVariants.{ByLoad}
use Rattle.fifo.proofs.preview.Goals as goal

pub returns : goal.returns
returns c = c.preview.ensures ByLoad
