use Rattle.paging.specs.Numbers.{kind_of_outcome}
use Rattle.min.proofs.Written.{writing_turn}
use Rattle.min.proofs.write.put_bundles.Goals as goal

pub loop-t-preserved : goal.loop-t-preserved
loop-t-preserved c =
    let turn = c.loop-t in
    let asked = c.asked-outcome in
    let put = c.put_if_bundled-at in
    writing_turn c.args.pass.k c.args.pass.a turn.t turn.at c.args.from (kind_of_outcome asked.result.0) c.args.pass.trace.now c.args.pass.lefts.now turn.held c.args.out.now turn.out
    c.args.pass.ready turn.invariant c.loop-t-test.true asked.ensures.0 asked.result.1 put.result c.serve.new.self put.new.out asked.ensures.1 c.serve.ensures
    put.ensures.0 put.ensures.1
