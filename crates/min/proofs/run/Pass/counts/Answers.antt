use native.Mathlib.Omega.{arith}
use Rattle.lists.proofs.Choice.{bit_le}
use Rattle.paging.specs.Numbers.{kind_of_outcome}
use Rattle.paging.specs.Policy.{is_bundled, is_load}
use Rattle.min.proofs.Turn.{counting_turn, count_kinds}
use Rattle.min.proofs.run.Pass.counts.Goals as goal

pub overflow_add-bundles : goal.overflow_add-bundles
overflow_add-bundles c =
    omega (
      arith,
      c.loop-t.invariant.bundled,
      count_kinds is_bundled c.args.self.k c.args.self.a c.args.self.trace.now,
      c.args.self.ready.short,
      c.bundles-bundles.ensures,
      bit_le (is_bundled (kind_of_outcome c.asked-outcome.result.0)),
    )

pub overflow_add-loads : goal.overflow_add-loads
overflow_add-loads c =
    omega (
      arith,
      c.loop-t.invariant.loaded,
      count_kinds is_load c.args.self.k c.args.self.a c.args.self.trace.now,
      c.args.self.ready.short,
      c.loads-loads.ensures,
      bit_le (is_load (kind_of_outcome c.asked-outcome.result.0)),
    )

pub loop-t-preserved : goal.loop-t-preserved
loop-t-preserved c =
    let turn = c.loop-t in
    let asked = c.asked-outcome in
    rw (c.bundles-bundles.ensures, c.loads-loads.ensures)
    (counting_turn c.args.self.k c.args.self.a turn.t (kind_of_outcome asked.result.0) c.args.self.trace.now c.args.self.lefts.now turn.held c.args.self.ready turn.invariant.stands
    c.loop-t-test.true asked.ensures.0 asked.result.1 c.serve.new.self asked.ensures.1 c.serve.ensures turn.bundles turn.loads turn.invariant)
