use Prim.Native.Nat.{◌+◌, ◌-◌}
use native.Mathlib.Omega.{arith}
use mathlib.Core.Path.{◌≡◌}
use Rattle.editions.proofs.Written.{same_first, same_next, same_done}
use Rattle.editions.proofs.old_edition.put_same.Goals as goal

pub loop-init : goal.loop-init
loop-init c =
    let all : c.args.times ≡ c.args.times - 0 = omega arith in
    rw (← all) (same_first c.args.page c.args.times c.args.out.now c.args.from c.requires)

pub loop-preserved : goal.loop-preserved
loop-preserved c =
    let one : c.args.times - c.loop.counter - 1 ≡ c.args.times - (c.loop.counter + 1) = omega arith in
    rw (← one) (same_next _ _ _ _ _ _ _ c.loop.invariant (omega arith) c.rq_at.new.out c.rq_at.ensures)

pub returns : goal.returns
returns c = same_done _ _ _ _ _ _ _ c.loop.invariant (omega arith)
