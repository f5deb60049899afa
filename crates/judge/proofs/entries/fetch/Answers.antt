use Rattle.std.proofs.Common.{◌∙◌}
use Rattle.paging.specs.Schedule.{pf}
use Rattle.judge.specs.inner.Places.{standing}
use Rattle.judge.proofs.EntryLaws.{acts, pf_held, pf_fetched, pf_done}
use Rattle.judge.proofs.entries.fetch.Goals as goal
use Rattle.judge.proofs.entries.fetch.Goals.{then-has-via-then-has, then-has-via-else-has+then-fetched}

pub returns-then-has-clause-step : goal.returns-then-has-clause-step
returns-then-has-clause-step c =
    let arrives = acts c.args.files.now c.args.files.now.k c.arrive.new.held (standing c.args.files.now c.args.held.now c.args.place) (pf c.args.t c.args.page)
    c.in_ok-here.here c.in_ok-here.ensures.step in
    elim c.then-has.branch [
      | then-has-via-then-has w ↦ pf_held _ _ _ c.in_ok-here.ensures.sound.sound c.args.t _ w.if-has.ensures ∙ arrives
      | then-has-via-else-has+then-fetched w ↦ pf_fetched _ _ _ c.in_ok-here.ensures.sound.sound c.args.t _ w.if-fetched.ensures ∙ arrives
    ]

pub returns-clause-step : goal.returns-clause-step
returns-clause-step c =
    let ends = c.in_ok-here.ensures.sound.ends in
    let page = c.requires.2 in
    pf_done _ _ _ c.in_ok-here.ensures.sound.sound c.args.t _ c.if-has.ensures c.if-fetched.ensures (rw (← ends) at page)
    ∙ acts c.args.files.now c.args.files.now.k c.arrive.new.held (standing c.args.files.now c.args.held.now c.args.place) (pf c.args.t _) c.in_ok-here.here
    c.in_ok-here.ensures.step
