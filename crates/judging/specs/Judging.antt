-- The judge over a schedule's entries (document 01, "Legal schedule", and the order in "Who can cause a refusal"): the records of
-- the file before its end or its first damage. A record's form (4, 5, and 6 for an EV's n) is the file's matter.
use Rattle.std.specs.Prelude.{ℕ, zero, suc, ◌+◌, ◌-◌, Bool, true, false, not, List, [], ◌∷◌, ◌++◌, eqb, leb, ltb, length}
use Rattle.lists.specs.Choice.{pick, ◌and◌, ◌or◌}
use Rattle.lists.specs.Pages.{mem, erase_all}
use Rattle.paging.specs.Schedule.{Entry, ev, pf, time_of, held_in_turn, with_page}
use Rattle.judging.specs.Answer.{Answer, cost, refused}

-- where the judge stands between two records
pub record Standing : Type 0 where
  -- the open request: the first that is not closed
  pub t : ℕ
  -- the trace from request t on
  pub trace : List ℕ
  -- the pages held after the EVs and PFs at t so far. They may be more than k: that is judged when the request closes
  pub held : List ℕ
  -- whether a PF stands at t
  pub fetched : Bool
  -- the EVs so far
  pub bundles : ℕ

-- nothing is read yet: request 0 is open and the buffer is empty
abbrev pub stands_first : List ℕ → Standing
stands_first trace = record { t = 0; trace = trace; held = []; fetched = false; bundles = 0 }

pub data Step : Type 0 where
  on : Standing → Step
  stop : (number : ℕ) → Step

-- the trace and the pages held after some requests are closed, or the first of them after which more than k pages are held
pub data Closed : Type 0 where
  closed : (trace held : List ℕ) → Closed
  overfull : Closed

-- n requests are closed, one by one: the requested page is added if it is absent, and at most k pages may then be held
abbrev pub closing : (k n : ℕ) → (trace held : List ℕ) → Closed
closing k zero trace held = closed trace held
closing k (suc n) [] held = closed [] held
closing k (suc n) (p ∷ ps) held = pick (leb (length (with_page p held)) k) (closing k n ps (with_page p held)) overfull

-- request u is open where the requests before it could be closed (7)
abbrev pub opened : (u : ℕ) → Standing → Closed → Step
opened u s (closed trace held) =
    on (record { t = u; trace = trace; held = held; fetched = s.fetched and eqb u s.t; bundles = s.bundles })
opened u s overfull = stop 7

-- the entry at the open request: an EV after a PF, a page to evict that is not held or is named twice, a page to prefetch that is
-- held (6)
abbrev pub acted : Entry → Standing → Step
acted (ev u pages) s =
    pick (s.fetched or not (held_in_turn pages s.held)) (stop 6)
    (on (record { t = s.t; trace = s.trace; held = erase_all pages s.held; fetched = false; bundles = suc s.bundles }))
acted (pf u page) s =
    pick (mem page s.held) (stop 6)
    (on (record { t = s.t; trace = s.trace; held = s.held ++ (page ∷ []); fetched = true; bundles = s.bundles }))

abbrev pub and_then : Step → (Standing → Step) → Step
and_then (on s) f = f s
and_then (stop number) f = stop number

-- on the way to request u: its number falls or is not a request (6, and nothing is closed); then 7 at the requests before it
abbrev pub arrived : (k u : ℕ) → Standing → Step
arrived k u s =
    pick (ltb u s.t or leb (s.t + length s.trace) u) (stop 6)
    (opened u s (closing k (u - s.t) s.trace s.held))

-- one entry: its t, and 7 at the requests it closes; then the rest of its own 6
abbrev pub stepped : (k : ℕ) → Entry → Standing → Step
stepped k e s = and_then (arrived k (time_of e) s) (acted e)

-- after the last record: the remaining requests are judged for 7
abbrev pub finished : (bundles : ℕ) → Closed → Answer
finished bundles (closed trace held) = cost bundles
finished bundles overfull = refused 7

-- the end of the records: the file's damage (0: none) comes before 7 at the requests that are not closed
abbrev pub ended : (k damage : ℕ) → Standing → Answer
ended k damage s =
    pick (eqb damage 0) (finished s.bundles (closing k (length s.trace) s.trace s.held)) (refused damage)

abbrev pub answered : Step → (Standing → Answer) → Answer
answered (on s) f = f s
answered (stop number) f = refused number

-- the judge's answer to the entries from here on, where the file's end has this damage
abbrev pub judged_from : (k damage : ℕ) → List Entry → Standing → Answer
judged_from k damage [] s = ended k damage s
judged_from k damage (e ∷ es) s = answered (stepped k e s) (λ next. judged_from k damage es next)
