use native.Mathlib.Omega.{arith}
use mathlib.Core.Path.{◌≡◌}
use Rattle.lists.proofs.Parts.{zeros}
use Rattle.next_use.proofs.Chains.{fill_starts, fill_ends}
use Rattle.next_use.proofs.fill_lefts.Goals as goal

pub chain-requires : goal.chain-requires
chain-requires c = record { short = c.requires.0; clear = zeros 65536 }

pub loop-c-init : goal.loop-c-init
loop-c-init c = fill_starts c.args.trace.now _ c.args.lefts.now (zeros 65536)

pub returns : goal.returns
returns c =
    let e : c.loop-c.c ≡ 65536 = omega arith in
    fill_ends c.args.trace.now c.loop-c.seen c.loop-c.lefts (omega (arith, c.requires.1)) (rw e at c.loop-c.invariant)
