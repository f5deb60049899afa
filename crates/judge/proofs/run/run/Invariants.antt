use Rattle.std.proofs.Common.{◌+◌, ◌*◌, ◌-◌, ◌≡◌, length}
use Rattle.judge.specs.inner.Places.{Sound}
use Rattle.judge.specs.inner.Verdicts.{place_answer}
use Rattle.judge.proofs.run.run.Given as goal

abbrev pub invariant-loop-next : goal.invariant-loop-next
invariant-loop-next l = Sound l.files l.held l.place × (place_answer l.files l.held l.place ≡ place_answer l.files l.initial.held l.initial.place)

abbrev pub decreases-loop-next : goal.decreases-loop-next
decreases-loop-next l = length l.files.schedule.now - (l.place.from + 10 * l.place.fetches)
