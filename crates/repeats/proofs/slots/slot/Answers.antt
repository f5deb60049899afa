-- `repeats::slots::slot` meets its contract: a page has 32 bits, so the product fits.
use lib.Bits.{and_le_r}
use Rattle.repeats.proofs.ChainLaws.{slot_is}
use Rattle.repeats.proofs.slots.slot.Goals as goal

pub returns : goal.returns
returns c = (slot_is _ _, and_le_r _ _)
