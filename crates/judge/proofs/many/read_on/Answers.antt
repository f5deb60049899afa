use Rattle.std.proofs.Common.{arith}
use Rattle.judge.proofs.ManyLaws.{reads_inside, reads_stop, reads_next}
use Rattle.judge.proofs.many.read_on.Goals as goal

pub returns-then-known : goal.returns-then-known
returns-then-known c = reads_stop _ _ _ _ _ c.loop-page.invariant c.in-Some.page c.in-Some.ensures c.if-known.ensures

pub loop-page-smaller : goal.loop-page-smaller
loop-page-smaller c = let i = reads_inside _ _ _ _ _ c.loop-page.invariant c.in-Some.page c.in-Some.ensures in omega arith

pub loop-page-preserved : goal.loop-page-preserved
loop-page-preserved c =
    reads_next _ _ _ _ _ c.loop-page.invariant c.in-Some.page c.in-Some.ensures c.loop-page.marks.all _ c.if-known.ensures c.set.ensures
