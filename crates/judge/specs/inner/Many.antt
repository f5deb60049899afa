-- Reading on over PFs of the open request: what is asked of the place, and what stays the same.
use Rattle.std.specs.Prelude.{ℕ, ◌+◌, ◌*◌, ◌≤◌, ◌<◌, List, ◌≡◌, length, Option, Some, None, Result, Ok, Err}
use Rattle.paging.specs.declared.reasons.Refusal.{Refusal}
use Rattle.reading.specs.Reading.{read_schedule}
use Rattle.reading.specs.Reading as reading
use Rattle.cursor.specs.Cursor.{requests_left}
use Rattle.judge.specs.declared.place.Files.{Files}
use Rattle.judge.specs.declared.place.Place.{Place}
use Rattle.judge.specs.inner.Verdicts.{place_answer, step_answer}

-- a page ahead is that of a PF of request t, which is the schedule's record at this offset
abbrev pub AheadIs : (a : ℕ) → (schedule : List ℕ) → (at t : ℕ) → Option ℕ → Type 0
AheadIs a schedule at t (Some page) = read_schedule a schedule at ≡ reading.fetch t page (at + 10)
AheadIs a schedule at t None = Unit {0}

-- the place with so many PFs
abbrev pub fetching : Place → ℕ → Place
fetching p fetches = record { t = p.t; rest = p.rest; from = p.from; fetches = fetches; bundles = p.bundles }

-- some PFs further on, at the same request
pub record More (schedule : List ℕ) (p q : Place) : Type 0 where
  pub same : q ≡ fetching p q.fetches
  pub further : p.fetches ≤ q.fetches
  pub inside : p.from + 10 * q.fetches ≤ length schedule

abbrev pub MoreStep : (schedule : List ℕ) → Place → Result Place Refusal → Type 0
MoreStep schedule p (Ok q) = More schedule p q
MoreStep schedule p (Err _) = Unit {0}

-- the answer from the step on is the answer from the place on, where the place's request is one of the trace
pub record ReadOn (f : Files) (held : List ℕ) (p : Place) (r : Result Place Refusal) : Type 0 where
  pub answer : 0 < length (requests_left f.trace.now p.rest).held → step_answer f held r ≡ place_answer f held p
  pub more : MoreStep f.schedule.now p r
