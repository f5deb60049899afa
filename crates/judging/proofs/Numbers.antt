-- The number that the caller receives (document 01: "the cost, or the refusal number made negative"): a refusal's is from 1 to 7 or 13 (document 02, request
-- 03), so a number at or above zero is a cost, and one below zero a refusal.
use Prim.Native.Nat.{ℕ, zero, suc, ◌+◌, ◌-◌, ◌≤◌}
use native.Mathlib.Omega.{arith}
use mathlib.Core.Bool.{Bool, true, false, not}
use mathlib.Core.List.{List, [], ◌∷◌}
use mathlib.Core.Logic.{◌⊎◌, inl, inr}
use mathlib.Core.Path.{◌≡◌, refl, ap, subst}
use lib.Dec.{eqb, leb, ltb}
use lib.IntN.{ℤ, pos, negsuc}
use lib.ListN.{length}
use borrow.Author.Tests.{eqb-false}
use Rattle.lists.specs.Choice.{pick, ◌and◌, ◌or◌}
use Rattle.lists.specs.Pages.{mem}
use Rattle.lists.proofs.Choice.{by_test}
use Rattle.paging.specs.Refusals.{longest_trace}
use Rattle.paging.specs.Schedule.{Entry, ev, pf, time_of, held_in_turn}
use Rattle.reading.specs.Files.{entries_from}
use Rattle.reading.specs.Reading.{read_schedule}
use Rattle.reading.specs.Reading as reading
use Rattle.reading.proofs.Facts.{ScheduleFacts, schedule_facts, schedule_says}
use Rattle.reading.proofs.Numbers.{Among, ScheduleNumber, TraceNumber, schedule_low, entries_low}
use Rattle.traces.proofs.Whole.{each_file}
use Rattle.judging.specs.Answer.{Answer, cost, refused, answer_number}
use Rattle.judging.specs.Files.{behind_ka, behind_trace, schedule_judged, judged}
use Rattle.judging.specs.Judging.{Standing, Step, on, stop, Closed, closed, overfull, closing, opened, acted, and_then, arrived, stepped, finished, ended, answered, judged_from}
use Rattle.judging.specs.Judging.{stands_first}

-- a refusal's number is one of the judge's
abbrev pub Numbered : ℕ → Type 0
Numbered n = (1 ≤ n) × ((n ≤ 7) ⊎ (n ≡ 13))

abbrev pub Told : Answer → Type 0
Told (cost bundles) = Unit {0}
Told (refused number) = Numbered number

abbrev StepTold : Step → Type 0
StepTold (on s) = Unit {0}
StepTold (stop number) = Numbered number

-- a number from 1 to 7
up_to_7 : (n : ℕ) → (n ≡ 0 → ⊥) → n ≤ 7 → Numbered n
up_to_7 n some few = (omega arith, inl few)

four : Numbered 4
four = (omega arith, inl (omega arith))

five : Numbered 5
five = (omega arith, inl (omega arith))

six : Numbered 6
six = (omega arith, inl (omega arith))

seven : Numbered 7
seven = (omega arith, inl (omega arith))

-- ---- the entries

opened_told : (u : ℕ) (s : Standing) (c : Closed) → StepTold (opened u s c)
opened_told u s (closed trace held) = tt
opened_told u s overfull = seven

arrived_told : (k u : ℕ) (s : Standing) → StepTold (arrived k u s)
arrived_told k u s =
    by_test (λ b. StepTold (pick b (stop 6) (opened u s (closing k (u - s.t) s.trace s.held))))
    (ltb u s.t or leb (s.t + length s.trace) u) (λ e. six) (λ e. opened_told u s (closing k (u - s.t) s.trace s.held))

stop_or_on : (b : Bool) (s : Standing) → StepTold (pick b (stop 6) (on s))
stop_or_on true s = six
stop_or_on false s = tt

acted_told : (e : Entry) (s : Standing) → StepTold (acted e s)
acted_told (ev u pages) s = stop_or_on (s.fetched or not (held_in_turn pages s.held)) _
acted_told (pf u page) s = stop_or_on (mem page s.held) _

then_told : (x : Step) (f : Standing → Step) → StepTold x → ((s : Standing) → StepTold (f s)) → StepTold (and_then x f)
then_told (on s) f t g = g s
then_told (stop number) f t g = t

finished_told : (bundles : ℕ) (c : Closed) → Told (finished bundles c)
finished_told bundles (closed trace held) = tt
finished_told bundles overfull = seven

module _ (k damage : ℕ) (low : damage ≤ 6) where
  ended_told : (s : Standing) → Told (ended k damage s)
  ended_told s =
      by_test (λ b. Told (pick b (finished s.bundles (closing k (length s.trace) s.trace s.held)) (refused damage))) (eqb damage 0)
      (λ e. finished_told s.bundles (closing k (length s.trace) s.trace s.held))
      (λ e. up_to_7 damage (eqb-false damage 0 e) (omega arith))

  answered_told : (x : Step) (f : Standing → Answer) → StepTold x → ((s : Standing) → Told (f s)) → Told (answered x f)
  answered_told (on s) f t g = g s
  answered_told (stop number) f t g = t

  entries_told : (es : List Entry) (s : Standing) → Told (judged_from k damage es s)
  entries_told [] s = ended_told s
  entries_told (e ∷ es) s =
      answered_told (stepped k e s) (λ next. judged_from k damage es next) (then_told (arrived k (time_of e) s) (acted e) (arrived_told k (time_of e) s) (acted_told e))
      (λ next. entries_told es next)

-- ---- both files

-- what a reader answers at offset 0
abbrev StartTold : reading.Answer → Type 0
StartTold (reading.refused number) = Numbered number
StartTold reading.ended = Unit {0}
StartTold (reading.sizes k a next) = Unit {0}
StartTold (reading.request page times next) = Unit {0}
StartTold (reading.bundle t n from next) = Unit {0}
StartTold (reading.fetch t page next) = Unit {0}

behind_told : (x : reading.Answer) (go : ℕ → ℕ → ℕ → Answer) → StartTold x → ((k a next : ℕ) → x ≡ reading.sizes k a next → Told (go k a next))
    → Told (behind_ka x go)
behind_told (reading.refused number) go t f = t
behind_told (reading.sizes k a next) go t f = f k a next refl
behind_told reading.ended go t f = five
behind_told (reading.request page times next) go t f = four
behind_told (reading.bundle u n from next) go t f = four
behind_told (reading.fetch u page next) go t f = four

schedule_start : (bound : ℕ) (s : List ℕ) (x : reading.Answer) → ScheduleFacts bound s 0 x → Among ScheduleNumber x → StartTold x
schedule_start bound s (reading.refused number) f l = up_to_7 number f (omega arith)
schedule_start bound s reading.ended f l = tt
schedule_start bound s (reading.sizes k a next) f l = tt
schedule_start bound s (reading.request page times next) f l = tt
schedule_start bound s (reading.bundle t n from next) f l = tt
schedule_start bound s (reading.fetch t page next) f l = tt

schedule_told : (k a : ℕ) (pages schedule : List ℕ) → Told (schedule_judged k a pages schedule)
schedule_told k a pages schedule =
    behind_told (read_schedule a schedule 0) _ (schedule_start a schedule (read_schedule a schedule 0) (schedule_facts a schedule 0) (schedule_low a schedule 0 (omega arith)))
    (λ k' a' next e.
    let file = entries_from a schedule next in
    let f = schedule_says a schedule 0 (reading.sizes k' a' next) e in
    let inside = f.inside in
    let behind = f.behind in
    by_test (λ b. Told (pick b (judged_from k file.damage file.held (stands_first pages)) (refused 6))) (eqb k' k and eqb a' a)
    (λ m. entries_told k file.damage (entries_low a schedule next (omega arith)) file.held (stands_first pages)) (λ m. six))

-- what damages a trace
trace_number : (n : ℕ) → (n ≡ 0 → ⊥) → TraceNumber n → Numbered n
trace_number n some (inl few) = up_to_7 n some (omega arith)
trace_number n some (inr e) = (omega arith, inr e)

told : (trace schedule : List ℕ) → Told (judged trace schedule)
unfolding judged
told trace schedule =
    each_file longest_trace trace (λ x. Told (behind_trace x (λ k a pages. schedule_judged k a pages schedule))) trace_number
    (λ k a pages w. schedule_told k a pages schedule)

-- ---- the theorems

-- a refusal's number is from 1 to 7, or 13
pub refusals_are_numbered : (trace schedule : List ℕ) (number : ℕ) → judged trace schedule ≡ refused number → Numbered number
refusals_are_numbered trace schedule number e = subst Told e (told trace schedule)

cost_of : (x : Answer) (n : ℕ) → Told x → answer_number x ≡ pos n → x ≡ cost n
cost_of (cost bundles) n t e = let same : bundles ≡ n = cc in rw same
cost_of (refused zero) n t e = absurd (omega (arith, t.0))
cost_of (refused (suc m)) n t e = absurd (sign m n e)
  where
    below : ℤ → ℕ
    below (pos x) = 0
    below (negsuc x) = 1

    sign : (m n : ℕ) → negsuc m ≡ pos n → ⊥
    sign m n q = let z : ◌≡◌ {A = ℕ} 1 0 = ap below q in omega arith

-- a number at or above zero is a cost
pub number_is_cost : (trace schedule : List ℕ) (n : ℕ) → answer_number (judged trace schedule) ≡ pos n → judged trace schedule ≡ cost n
number_is_cost trace schedule n e = cost_of (judged trace schedule) n (told trace schedule) e
