use Rattle.repeats.proofs.BitLaws.{bit_is}
use Rattle.repeats.proofs.bits.bit_in_word.Goals as goal

pub returns : goal.returns
returns c = bit_is c.args.bit
