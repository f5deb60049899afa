use Prim.Native.Nat.{◌-◌}
use native.Mathlib.Omega.{arith}
use mathlib.Core.Path.{sym, ◌∙◌}
use lib.ListN.{length}
use Rattle.repeats.proofs.ChainLaws.{found_twice, found_new}
use Rattle.repeats.proofs.chains.chained_once.Goals as goal

pub offset_bounds-heads-at : goal.offset_bounds-heads-at
offset_bounds-heads-at c = let m = c.requires.slots in omega arith

pub bounds-heads-at : goal.bounds-heads-at
bounds-heads-at c = let m = c.requires.slots in omega arith

pub returns-then-in_chain : goal.returns-then-in_chain
returns-then-in_chain c =
    let at = c.loop-i in
    sym (found_twice (length c.args.heads.now - 1) c.args.pages.now at.heads at.before at.i c.slot-at.result c.loop-i-test.true at.invariant c.slot-at.ensures.0
    (sym c.in_chain.ensures ∙ c.if-in_chain.true))

pub loop-i-preserved : goal.loop-i-preserved
loop-i-preserved c =
    let at = c.loop-i in
    let p = c.requires.places in
    let q = c.requires.slots in
    found_new (length c.args.heads.now - 1) c.args.pages.now at.heads at.before at.i c.slot-at.result c.loop-i-test.true at.invariant c.slot-at.ensures.0 (omega arith)
    (omega arith) (sym c.in_chain.ensures ∙ c.if-in_chain.false)
