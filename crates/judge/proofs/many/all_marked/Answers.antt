use Rattle.repeats.proofs.BitLaws.{all_none}
use Rattle.judge.proofs.ManyLaws.{mark_next}
use Rattle.judge.proofs.many.all_marked.Goals as goal

pub loop-i-init : goal.loop-i-init
loop-i-init c = all_none _

pub loop-i-preserved : goal.loop-i-preserved
loop-i-preserved c = mark_next _ _ _ _ _ _ c.loop-i.marks.all c.set.ensures c.read32.ensures c.loop-i.invariant
