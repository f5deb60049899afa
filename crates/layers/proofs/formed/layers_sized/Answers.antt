use native.Mathlib.Omega.{arith}
use mathlib.Core.Path.{refl, sym, ◌∙◌}
use borrow.Author.Tests.{lt-ltb}
use Rattle.lists.proofs.Choice.{clash}
use Rattle.layers.proofs.WellFormed.{sized_first, sized_second, sized_third, sized_last}
use Rattle.layers.proofs.formed.layers_sized.Goals as goal
use Rattle.layers.proofs.formed.layers_sized.Goals.{then-present, else-present}

pub returns-else-single_above : goal.returns-else-single_above
returns-else-single_above c =
    let run = c.args.run in
    let numbers = c.args.numbers.now in
    let sizes = c.tally-sizes in
    elim c.if-present.branch [
      | then-present w ↦
          c.if-single_above.false
          ∙ sized_second run numbers sizes.result sizes.ensures _ _ refl refl (omega arith) _ c.present.ensures w.if-present.true _ w.single_above.ensures
          (sym w.value-is ∙ c.if-single_above.false)
      | else-present w ↦
          c.if-single_above.false
          ∙ sized_first run numbers sizes.result sizes.ensures _ _ refl refl (omega arith) _ c.present.ensures w.if-present.false
    ]

pub returns-then-limit-s : goal.returns-then-limit-s
returns-then-limit-s c =
    let run = c.args.run in
    let numbers = c.args.numbers.now in
    let sizes = c.tally-sizes in
    elim c.if-present.branch [
      | then-present w ↦
          lt-ltb _ _ c.if-limit-s.true
          ∙ sized_third run numbers sizes.result sizes.ensures _ _ refl refl (omega arith) _ c.present.ensures w.if-present.true _ w.single_above.ensures
          (sym w.value-is ∙ c.if-single_above.true) c.if-limit-s.true
      | else-present w ↦ clash c.if-present.value c.if-single_above.true (w.value-is ∙ w.if-present.false)
    ]

pub returns-else-limit-s : goal.returns-else-limit-s
returns-else-limit-s c =
    let run = c.args.run in
    let numbers = c.args.numbers.now in
    let sizes = c.tally-sizes in
    elim c.if-present.branch [
      | then-present w ↦
          sized_last run numbers sizes.result sizes.ensures _ _ refl refl (omega arith) _ c.present.ensures w.if-present.true _ w.single_above.ensures
          _ (sym w.value-is ∙ c.if-single_above.true) c.if-limit-s.false c.single_above-else-limit-s.ensures
      | else-present w ↦ clash c.if-present.value c.if-single_above.true (w.value-is ∙ w.if-present.false)
    ]
