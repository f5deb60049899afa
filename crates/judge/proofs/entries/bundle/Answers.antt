use Rattle.std.proofs.Common.{arith, refl, ◌∙◌, drop}
use Rattle.paging.specs.Schedule.{ev}
use Rattle.wire.specs.Numbers.{nums32}
use Rattle.judge.specs.inner.Places.{standing}
use Rattle.judge.proofs.EntryLaws.{acts, ev_late, ev_missing, ev_done, ev_sound}
use Rattle.judge.proofs.entries.bundle.Goals as goal
use Rattle.judge.proofs.entries.bundle.Goals.{then-here-gt0-via-then-here-gt0, then-here-gt0-via-else-here-gt0+then-not-evict}

pub returns-then-here-gt0-clause-step : goal.returns-then-here-gt0-clause-step
returns-then-here-gt0-clause-step c =
    let arrives = acts c.args.files.now c.args.files.now.k c.arrive.new.held (standing c.args.files.now c.args.held.now c.args.place) (ev c.args.t _)
    c.in_ok-here.here c.in_ok-here.ensures.step in
    elim c.then-here-gt0.branch [
      | then-here-gt0-via-then-here-gt0 w ↦ ev_late _ _ _ c.in_ok-here.ensures.sound.sound c.args.t _ (omega arith) ∙ arrives
      | then-here-gt0-via-else-here-gt0+then-not-evict w ↦
          ev_missing _ _ _ c.in_ok-here.ensures.sound.sound c.args.t _ (omega arith) w.if-not-evict.ensures.were_held ∙ arrives
    ]

pub returns-clause-step : goal.returns-clause-step
returns-clause-step c =
    ev_done _ _ _ c.in_ok-here.ensures.sound.sound c.args.t c.args.next _ _ (c.if-not-evict.ensures.out refl) (omega arith) c.if-not-evict.ensures.were_held
    ∙ acts c.args.files.now c.args.files.now.k c.arrive.new.held (standing c.args.files.now c.args.held.now c.args.place) (ev c.args.t _) c.in_ok-here.here
    c.in_ok-here.ensures.step

pub returns-clause-sound : goal.returns-clause-sound
returns-clause-sound c =
    let ends = c.in_ok-here.ensures.sound.ends in
    let behind = c.requires.2 in
    ev_sound _ _ _ c.in_ok-here.ensures.sound.sound c.args.t c.args.next (nums32 c.args.count (drop c.args.pages c.args.files.now.schedule.now)) _
    (c.if-not-evict.ensures.out refl) (omega arith) c.requires.3
