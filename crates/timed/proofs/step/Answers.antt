use native.Mathlib.Omega.{arith}
use Rattle.timed.proofs.LiftingLaws.{number_pos}
use Rattle.timed.proofs.step.Goals as goal

pub lift_higher-requires : goal.lift_higher-requires
lift_higher-requires c =
    let inside = c.if-asked.true in
    let args = c.args in
    let pre = c.requires in
    let some = number_pos args.asked.k args.asked.a args.asked.s args.asked.page args.asked.time args.asked.at args.asked.used args.numbers.now args.pages.now args.times.now
    pre inside in
    (pre, inside, omega arith)
