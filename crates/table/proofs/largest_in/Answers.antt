use native.Mathlib.Omega.{arith}
use borrow.Author.Tests.{eq-eqb, ne_eqb}
use Rattle.table.proofs.Serving.{number_next, number_end}
use Rattle.table.proofs.largest_in.Goals as goal
use Rattle.table.proofs.largest_in.Goals.{then-pages-i, else-pages-i}

pub loop-i-preserved : goal.loop-i-preserved
loop-i-preserved c =
    let args = c.args in
    let i = c.loop-i.i in
    let best = c.loop-i.best in
    elim c.if-pages-i.branch [
      | then-pages-i w ↦ number_next args.numbers.now args.pages.now args.page i best _ c.requires c.loop-i-test.true
          (rw (eq-eqb _ _ w.if-pages-i.true) (omega arith)) c.loop-i.invariant
      | else-pages-i w ↦ number_next args.numbers.now args.pages.now args.page i best _ c.requires c.loop-i-test.true
          (rw (ne_eqb _ _ w.if-pages-i.false) (omega arith)) c.loop-i.invariant
    ]

pub returns : goal.returns
returns c =
    let args = c.args in
    number_end args.numbers.now args.pages.now args.page c.loop-i.i _ c.requires c.loop-i-test.false c.loop-i.invariant
