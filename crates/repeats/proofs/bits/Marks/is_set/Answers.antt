use Rattle.repeats.proofs.BitLaws.{set_is}
use Rattle.repeats.proofs.bits.Marks.is_set.Goals as goal

pub returns : goal.returns
returns c = set_is _ _ _ c.bit_in_word.ensures
