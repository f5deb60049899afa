use Rattle.std.proofs.Common.{arith}
use Rattle.judge.specs.inner.Places.{standing}
use Rattle.judge.proofs.EntryLaws.{falls, late, there, seven, opens, opens_sound}
use Rattle.judge.proofs.entries.arrive.Goals as goal
use Rattle.judge.proofs.entries.arrive.Goals.{then-u-place-via-then-u-place, then-u-place-via-else-u-place+then-u-files}

pub returns-then-u-place-clause-step : goal.returns-then-u-place-clause-step
returns-then-u-place-clause-step c =
    elim c.then-u-place.branch [
      | then-u-place-via-then-u-place w ↦ falls _ _ (standing c.args.files.now c.args.held.now c.args.place) w.if-u-place.true
      | then-u-place-via-else-u-place+then-u-files w ↦ late _ _ _ _ c.requires (omega arith)
    ]

pub returns-then-u-place-2-clause-step : goal.returns-then-u-place-2-clause-step
returns-then-u-place-2-clause-step c = there _ _ _ _ c.requires c.if-u-place-2.true (omega arith)

pub returns-in_default-clause-step : goal.returns-in_default-clause-step
returns-in_default-clause-step c = seven _ _ _ _ c.requires (omega arith) (omega arith) c.close_open.new.held c.in_default.ensures.closes

pub returns-clause-step : goal.returns-clause-step
returns-clause-step c = opens _ _ _ _ c.requires (omega arith) (omega arith) _ _ c.in-Some.ensures.closes

pub returns-clause-sound : goal.returns-clause-sound
returns-clause-sound c = opens_sound _ _ _ _ c.requires (omega arith) (omega arith) _ _ c.in-Some.ensures.closes c.in-Some.ensures.rest
