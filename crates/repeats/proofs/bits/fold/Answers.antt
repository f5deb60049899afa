use Rattle.repeats.proofs.BitLaws.{fold_is}
use Rattle.repeats.proofs.bits.fold.Goals as goal

pub returns : goal.returns
returns c = fold_is c.args.page
