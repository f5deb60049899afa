-- Refusals 1, 2 and 3: the first condition that holds decides, and what is known where none holds.
use Rattle.std.specs.Prelude.{Ok, Err}
use Rattle.paging.proofs.Numbers.{number_above}
use Rattle.paging.specs.Numbers.{number_of, totals_answer}
use Rattle.paging.specs.declared.reasons.Refusal.{Refusal}
use Rattle.paging.specs.declared.reasons.Refusal.TheVariants.{TooLittleRoom}
use Prim.Native.Nat.{ℕ, zero, suc, ◌≤◌, ◌<◌}
use native.Mathlib.Omega.{arith}
use mathlib.Core.List.{List, ◌++◌}
use mathlib.Core.Path.{◌≡◌, refl, sym}
use lib.ListN.{length, drop}
use borrow.Author.Tests.{lt-ltb, le-ltb, eqb-false}
use Rattle.paging.specs.Min.{best_count, min_loads}
use Rattle.paging.specs.Refusals.{trace_refusal}
use Rattle.paging.proofs.Refusals.{trace_right, trace_fall, trace_pass}
use Rattle.min.specs.Answers.{ScheduledAnswer, scheduled_answer}
use Rattle.min.specs.Calls.{counts_by, counts_of, min_schedule, bytes_refusal, scheduled_by, bytes_by, scheduled_of, bytes_of}
use Rattle.paging.specs.declared.outcomes.Totals.{Totals}
use Rattle.min.specs.inner.Run.{Accepted}

-- where nothing is refused, the sizes are right and the trace is short enough
pub accepted : (k a : ℕ) (trace lefts : List ℕ) → 0 ≡ trace_refusal k a trace 0 → 65536 ≤ length lefts → Accepted k a trace lefts
accepted k a trace lefts e h =
    let right = trace_right k a trace 0 (sym e) in
    record { sizes = right.0; short = right.1; room = omega (arith, right.1) }

-- a refusal is zero in every other field
pub counts_number : (n k a : ℕ) (trace : List ℕ) → (n ≡ 0 → ⊥) → record { refusal = n; bundles = 0; loads = 0 } ≡ counts_by n k a trace
counts_number zero k a trace z = absurd (z refl)
counts_number (suc n) k a trace z = refl

pub counts_refused : (k a : ℕ) (trace : List ℕ) (reason : Refusal) → number_of reason ≡ trace_refusal k a trace 0
    → totals_answer (Err reason) ≡ counts_of k a trace
counts_refused k a trace reason e = rw (← e) (counts_number (number_of reason) k a trace (number_above reason))

pub counts_served : (k a : ℕ) (trace : List ℕ) (counts : Totals) → 0 ≡ trace_refusal k a trace 0 → counts.bundles ≡ best_count k a trace
    → counts.loads ≡ min_loads k a trace → totals_answer (Ok counts) ≡ counts_of k a trace
counts_served k a trace counts z e f = rw (← z, e, f) refl

pub scheduled_refused : (n k a : ℕ) (trace out : List ℕ) → (n ≡ 0 → ⊥)
    → (record { refusal = n; bundles = 0; loads = 0; length = 0 } ≡ scheduled_by n k a trace) × (out ≡ bytes_by n k a trace out)
scheduled_refused zero k a trace out z = absurd (z refl)
scheduled_refused (suc n) k a trace out z = (refl, refl)

-- refusal 8
pub bytes_few : (k a : ℕ) (trace out : List ℕ) → length out < length (min_schedule k a trace) → bytes_refusal k a trace out ≡ 8
unfolding bytes_refusal
bytes_few k a trace out h = rw (lt-ltb (length out) (length (min_schedule k a trace)) h)

pub bytes_enough : (k a : ℕ) (trace out : List ℕ) → length (min_schedule k a trace) ≤ length out → bytes_refusal k a trace out ≡ 0
unfolding bytes_refusal
bytes_enough k a trace out h = rw (le-ltb (length out) (length (min_schedule k a trace)) h)

-- the answer and the bytes of the call that writes, by whether the bytes suffice
pub scheduled_few : (k a : ℕ) (trace out : List ℕ) → length out < length (min_schedule k a trace)
    → (scheduled_answer (Err TooLittleRoom) ≡ scheduled_by (bytes_refusal k a trace out) k a trace)
    × (out ≡ bytes_by (bytes_refusal k a trace out) k a trace out)
scheduled_few k a trace out h = rw (bytes_few k a trace out h) (scheduled_refused 8 k a trace out (eqb-false 8 0 refl))

pub scheduled_whole : (k a bundles loads size : ℕ) (trace out out' : List ℕ) → bundles ≡ best_count k a trace → loads ≡ min_loads k a trace
    → size ≡ length (min_schedule k a trace) → size ≤ length out → out' ≡ min_schedule k a trace ++ drop (length (min_schedule k a trace)) out
    → (record { refusal = 0; bundles = bundles; loads = loads; length = size } ≡ scheduled_by (bytes_refusal k a trace out) k a trace)
    × (out' ≡ bytes_by (bytes_refusal k a trace out) k a trace out)
scheduled_whole k a bundles loads size trace out out' e f g h p = rw (bytes_enough k a trace out (omega arith)) (rw (e, f, g) refl, p)

-- and behind refusals 1, 2 and 3
pub schedule_number : (k a n : ℕ) (trace out : List ℕ) → n ≡ trace_refusal k a trace 0 → (n ≡ 0 → ⊥)
    → (record { refusal = n; bundles = 0; loads = 0; length = 0 } ≡ scheduled_of k a trace out) × (out ≡ bytes_of k a trace out)
schedule_number k a n trace out e z =
    let f = trace_fall k a trace (bytes_refusal k a trace out) n e z in
    rw f (scheduled_refused n k a trace out z)

pub schedule_refused : (k a : ℕ) (trace out : List ℕ) (reason : Refusal) → number_of reason ≡ trace_refusal k a trace 0
    → (scheduled_answer (Err reason) ≡ scheduled_of k a trace out) × (out ≡ bytes_of k a trace out)
schedule_refused k a trace out reason e = schedule_number k a (number_of reason) trace out e (number_above reason)

pub schedule_passes : (k a : ℕ) (trace out out' : List ℕ) (r : ScheduledAnswer) → 0 ≡ trace_refusal k a trace 0
    → (r ≡ scheduled_by (bytes_refusal k a trace out) k a trace) × (out' ≡ bytes_by (bytes_refusal k a trace out) k a trace out)
    → (r ≡ scheduled_of k a trace out) × (out' ≡ bytes_of k a trace out)
schedule_passes k a trace out out' r z p = rw (trace_pass k a trace (bytes_refusal k a trace out) (sym z)) p

pub ruleset count_rules =
    (accepted, counts_refused)
