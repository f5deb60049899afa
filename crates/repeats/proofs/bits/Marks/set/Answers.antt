use Rattle.repeats.proofs.BitLaws.{mark_is}
use Rattle.repeats.proofs.bits.Marks.set.Goals as goal

pub returns : goal.returns
returns c = mark_is _ _ _ _ (rw c.fold.ensures.0 at c.set_bit.ensures) (rw c.product.ensures.0 at c.set_bit-2.ensures)
