use Rattle.std.proofs.Common.{sym, ◌∙◌}
use Rattle.judge.proofs.FetchLaws.{fetched_here, fetched_next}
use Rattle.judge.proofs.fetches.fetched.Goals as goal

pub returns-then-read32-page : goal.returns-then-read32-page
returns-then-read32-page c =
    sym (c.loop-i.invariant ∙ fetched_here _ _ _ _ _ _ c.loop-i-test.true c.read32.ensures c.if-read32-page.true)

pub loop-i-preserved : goal.loop-i-preserved
loop-i-preserved c = c.loop-i.invariant ∙ fetched_next _ _ _ _ _ _ c.loop-i-test.true c.read32.ensures c.if-read32-page.false
