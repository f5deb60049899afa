use Prim.Native.Nat.{◌-◌}
use native.Mathlib.Omega.{arith}
use mathlib.Core.Path.{sym, ◌∙◌}
use lib.ListN.{length}
use Rattle.lists.proofs.Leaves.{twice_at}
use Rattle.repeats.proofs.FreshLaws.{fresh_unmarked, fresh_looked}
use Rattle.repeats.proofs.marks.new_pages_only.Goals as goal
use Rattle.repeats.proofs.marks.new_pages_only.Goals.{else-marked-via-then-marked+else-has, else-marked-via-else-marked}

pub returns-then-has : goal.returns-then-has
returns-then-has c = sym (twice_at c.args.pages.now c.loop-i.i c.loop-i-test.true (sym c.has.ensures ∙ c.if-has.true))

pub loop-i-preserved : goal.loop-i-preserved
loop-i-preserved c =
    let at = c.loop-i in
    let slot = c.slot-at in
    elim c.else-marked.branch [
      | else-marked-via-then-marked+else-has w ↦ fresh_looked (length c.args.marks.now - 1) at.marks c.args.pages.now at.i c.loop-i-test.true slot.result slot.ensures.0
          (omega arith) at.invariant (sym w.has.ensures ∙ w.if-has.false)
      | else-marked-via-else-marked w ↦ fresh_unmarked (length c.args.marks.now - 1) at.marks c.args.pages.now at.i c.loop-i-test.true slot.result slot.ensures.0
          (omega arith) at.invariant w.if-marked.false
    ]
