use Rattle.std.proofs.Common.{refl}
use Rattle.judge.proofs.BufferLaws.{evicts_next, evicts_missing}
use Rattle.judge.proofs.buffer.Held.evict.Goals as goal

pub returns-then-not-take_out-clause-were_held : goal.returns-then-not-take_out-clause-were_held
returns-then-not-take_out-clause-were_held c =
    evicts_missing _ _ _ _ _ _ _ c.loop-i-test.true c.read32.ensures c.loop-i.invariant c.if-not-take_out.ensures.was_held

pub loop-i-preserved : goal.loop-i-preserved
loop-i-preserved c =
    evicts_next _ _ _ _ _ _ _ c.loop-i-test.true c.read32.ensures c.loop-i.invariant c.take_out.new.self c.if-not-take_out.ensures.was_held
    (c.if-not-take_out.ensures.out refl)
