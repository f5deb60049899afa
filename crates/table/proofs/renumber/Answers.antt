use native.Mathlib.Omega.{arith}
use Rattle.table.proofs.Serving.{turn_drops, turn_keeps, renumbering_end}
use Rattle.table.proofs.renumber.Goals as goal
use Rattle.table.proofs.renumber.Goals.{then-number-gt0, else-number-gt0}

pub loop-from-preserved : goal.loop-from-preserved
loop-from-preserved c =
    let args = c.args in
    let loop = c.loop-from in
    let number = c.number_after-number in
    let freed = c.put_row in
    elim c.if-number-gt0.branch [
      | then-number-gt0 w ↦
          let put = w.put_row-then-number-gt0 in
          let pages = w.pages-is in
          let numbers = w.numbers-is in (
            omega arith,
            omega arith,
            rw (w.pages-is, w.numbers-is, w.to-is)
                (turn_keeps args.change args.numbers.now args.pages.now loop.numbers loop.pages loop.to loop.from _ c.requires loop.invariant.0 loop.invariant.1 (omega arith)
                loop.invariant.2 number.ensures _ _ w.if-number-gt0.true freed.ensures put.ensures),
          )
      | else-number-gt0 w ↦
          let pages = w.pages-is in
          let numbers = w.numbers-is in (
            omega arith,
            omega arith,
            rw (w.pages-is, w.numbers-is, w.to-is)
                (turn_drops args.change args.numbers.now args.pages.now loop.numbers loop.pages loop.to loop.from _ c.requires loop.invariant.0 loop.invariant.1 (omega arith)
                loop.invariant.2 number.ensures _ w.if-number-gt0.false freed.ensures),
          )
    ]

pub returns : goal.returns
returns c =
    let args = c.args in
    let loop = c.loop-from in
    renumbering_end args.change args.numbers.now args.pages.now loop.numbers loop.pages loop.to loop.from c.requires (omega arith) (omega arith) loop.invariant.2
