-- What the judge's code keeps, and the definitions' values that it stands for.
use Rattle.std.specs.Prelude.{ℕ, ◌+◌, ◌*◌, ◌≤◌, ◌<◌, List, ◌++◌, ◌≡◌, ltb, length, Option, Some, None, Result, Ok, Err}
use Rattle.cursor.specs.Cursor.{requests_left}
use Rattle.cursor.specs.declared.Rest.{Rest}
use Rattle.paging.specs.Numbers.{number_of}
use Rattle.paging.specs.Refusals.{largest_k}
use Rattle.paging.specs.declared.reasons.Refusal.{Refusal}
use Rattle.judging.specs.Judging.{Standing}
use Rattle.judging.specs.Judging as judging
use Rattle.judge.specs.declared.place.Files.{Files}
use Rattle.judge.specs.declared.place.Place.{Place}
use Rattle.judge.specs.inner.Fetches.{fetched_pages}

abbrev pub standing : Files → (held : List ℕ) → Place → Standing
standing f held p =
    record {
      t = p.t;
      trace = (requests_left f.trace.now p.rest).held;
      held = held ++ fetched_pages f.schedule.now p.from p.fetches;
      fetched = ltb 0 p.fetches;
      bundles = p.bundles;
    }

-- a place that the judge can stand at: at most k pages are held, the PFs stand in the schedule, behind its KA and behind the EVs
-- counted; the cursor stands at request t of a trace with no damage
pub record Sound (f : Files) (held : List ℕ) (p : Place) : Type 0 where
  pub size : f.k ≤ largest_k
  pub room : length held ≤ f.k
  pub inside : p.from + 10 * p.fetches ≤ length f.schedule.now
  pub behind : p.bundles < p.from
  pub started : 0 < p.rest.from
  pub undamaged : (requests_left f.trace.now p.rest).damage ≡ 0
  pub counted : p.t + length (requests_left f.trace.now p.rest).held ≡ f.requests

abbrev pub step_of : Files → (held : List ℕ) → Result Place Refusal → judging.Step
step_of f held (Ok p) = judging.on (standing f held p)
step_of f held (Err reason) = judging.stop (number_of reason)

-- a step leads to a sound place, and the schedule's next record is looked for at this offset
pub record SoundAt (f : Files) (held : List ℕ) (next : ℕ) (p : Place) : Type 0 where
  pub sound : Sound f held p
  pub ends : p.from + 10 * p.fetches ≡ next

abbrev pub SoundStep : Files → (held : List ℕ) → (next : ℕ) → Result Place Refusal → Type 0
SoundStep f held next (Ok p) = SoundAt f held next p
SoundStep f held next (Err _) = Unit {0}

abbrev pub closing_of : Files → (held : List ℕ) → Option Rest → judging.Closed
closing_of f held (Some rest) = judging.closed (requests_left f.trace.now rest).held held
closing_of f held None = judging.overfull

-- the cursor after some requests are closed: at most k pages are held, and the rest of the trace has the damage it had
pub record Moved (f : Files) (held : List ℕ) (before rest : Rest) : Type 0 where
  pub room : length held ≤ f.k
  pub started : 0 < rest.from
  pub damage : (requests_left f.trace.now rest).damage ≡ (requests_left f.trace.now before).damage

abbrev pub Cursor : Files → (held : List ℕ) → (before : Rest) → Option Rest → Type 0
Cursor f held before (Some rest) = Moved f held before rest
Cursor f held before None = Unit {0}
