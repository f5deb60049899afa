-- The judge's answers as its code gives them, and the definitions' values that they stand for.
use Rattle.std.specs.Prelude.{ℕ, ◌+◌, ◌*◌, ◌≤◌, ◌<◌, List, Option, Some, None, Result, Ok, Err}
use Rattle.paging.specs.Numbers.{number_of}
use Rattle.paging.specs.declared.reasons.Refusal.{Refusal}
use Rattle.reading.specs.Files.{entries_from}
use Rattle.judging.specs.Answer.{Answer, cost, refused}
use Rattle.judging.specs.Judging.{judged_from, ended}
use Rattle.judge.specs.declared.place.Files.{Files}
use Rattle.judge.specs.declared.place.Place.{Place}
use Rattle.judge.specs.inner.Places.{standing, Sound}

abbrev pub verdict_answer : Result ℕ Refusal → Answer
verdict_answer (Ok bundles) = cost bundles
verdict_answer (Err reason) = refused (number_of reason)

-- a cost that is not above a size: it fits the number that the caller receives
abbrev pub AtMost : ℕ → Result ℕ Refusal → Type 0
AtMost size (Ok bundles) = bundles ≤ size
AtMost size (Err _) = Unit {0}

-- the answer from a place on: the schedule's records behind it
abbrev pub place_answer : Files → (held : List ℕ) → Place → Answer
place_answer f held p =
    let file = entries_from f.a f.schedule.now (p.from + 10 * p.fetches) in
    judged_from f.k file.damage file.held (standing f held p)

-- the answer from a step on
abbrev pub step_answer : Files → (held : List ℕ) → Result Place Refusal → Answer
step_answer f held (Ok p) = place_answer f held p
step_answer f held (Err reason) = refused (number_of reason)

-- the answer behind a turn from this place on: at the schedule's end it hangs on the requests that are not closed
abbrev pub turn_answer : Files → (held : List ℕ) → Place → Result (Option Place) Refusal → Answer
turn_answer f held p (Ok (Some q)) = place_answer f held q
turn_answer f held p (Ok None) = ended f.k 0 (standing f held p)
turn_answer f held p (Err reason) = refused (number_of reason)

-- a turn leads to a sound place further on in the schedule, and the schedule's end leaves the place as sound as it was
pub record Onward (f : Files) (held : List ℕ) (p q : Place) : Type 0 where
  pub sound : Sound f held q
  pub further : p.from + 10 * p.fetches < q.from + 10 * q.fetches

abbrev pub SoundTurn : Files → (held : List ℕ) → Place → Result (Option Place) Refusal → Type 0
SoundTurn f held p (Ok (Some q)) = Onward f held p q
SoundTurn f held p (Ok None) = Sound f held p
SoundTurn f held p (Err _) = Unit {0}
