use native.Mathlib.Omega.{arith}
use borrow.Author.Rules.{rules}
use Rattle.next_use.proofs.Chains.{chain_starts, chain_turn}
use Rattle.next_use.proofs.chain.Goals as goal

pub loop-t-init : goal.loop-t-init
loop-t-init c = chain_starts c.args.trace.now c.args.heads.now c.args.before.now c.requires.clear

pub loop-t-preserved : goal.loop-t-preserved
loop-t-preserved c =
    let turn = c.loop-t in
    chain_turn turn.t c.args.trace.now turn.heads turn.before (search rules) (omega (arith, c.requires.short)) turn.invariant
