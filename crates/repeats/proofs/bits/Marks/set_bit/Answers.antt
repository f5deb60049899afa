use Rattle.repeats.proofs.BitLaws.{with_is}
use Rattle.repeats.proofs.bits.Marks.set_bit.Goals as goal

pub returns : goal.returns
returns c = with_is _ _ _ c.bit_in_word.ensures
