-- The numbers that a reader refuses with inside a file, and that a whole file's damage has: at most 6, and 13 in a trace.
use Prim.Native.Nat.{ℕ, zero, suc, ◌≤◌}
use native.Mathlib.Omega.{arith}
use mathlib.Core.Bool.{Bool, true, false}
use mathlib.Core.List.{List}
use mathlib.Core.Logic.{◌⊎◌, inl, inr}
use mathlib.Core.Path.{◌≡◌, refl}
use lib.Dec.{eqb, ltb}
use lib.ListN.{length, drop}
use borrow.Author.Tests.{le-ltb}
use Rattle.lists.specs.Choice.{pick, ◌or◌}
use Rattle.paging.specs.Refusals.{sizes_refusal}
use Rattle.wire.specs.Numbers.{num16}
use Rattle.records.specs.Bytes.{ev_length}
use Rattle.records.specs.Marks.{Mark, KA, RQ, RR, EV, PF, bad, mark_of, mark_at, mark_ka, mark_rq, mark_rr, mark_ev, mark_pf}
use Rattle.reading.specs.Files.{File, onward, walk, pages_in, requests_from, entries_in, entries_from}
use Rattle.reading.specs.Reading.{Answer, refused, ended, sizes, request, bundle, fetch, unless, ka_read, rq_read, rr_read, request_read, count_refused, ev_read, pf_read, entry_read}
use Rattle.reading.specs.Reading.{read_trace, read_schedule}
use Rattle.reading.proofs.Walk.{Goes, trace_goes, schedule_goes}

-- ---- one answer. P says which numbers may be given

abbrev pub Among : (ℕ → Type 0) → Answer → Type 0
Among P (refused n) = P n
Among P ended = Unit {0}
Among P (sizes k a next) = Unit {0}
Among P (request page times next) = Unit {0}
Among P (bundle t n from next) = Unit {0}
Among P (fetch t page next) = Unit {0}

-- the numbers of a schedule's reader, and of a trace's
abbrev pub ScheduleNumber : ℕ → Type 0
ScheduleNumber n = n ≤ 6

abbrev pub TraceNumber : ℕ → Type 0
TraceNumber n = (n ≤ 6) ⊎ (n ≡ 13)

-- what holds of both arms holds of a choice
either : {A : Type 0} (P : A → Type 0) (t : Bool) (x y : A) → P x → P y → P (pick t x y)
either P true x y p q = p
either P false x y p q = q

abbrev LowMark : Mark → Type 0
LowMark (bad n) = n ≤ 6
LowMark KA = Unit {0}
LowMark RQ = Unit {0}
LowMark RR = Unit {0}
LowMark EV = Unit {0}
LowMark PF = Unit {0}

mark_low : (b : List ℕ) → LowMark (mark_at b)
unfolding mark_at mark_of
mark_low b =
    either LowMark (ltb (length b) 2) (bad 5) _ (omega arith)
    (either LowMark (eqb (num16 b) mark_ka) KA _ tt
    (either LowMark (eqb (num16 b) mark_rq) RQ _ tt
    (either LowMark (eqb (num16 b) mark_rr) RR _ tt
    (either LowMark (eqb (num16 b) mark_ev) EV _ tt
    (either LowMark (eqb (num16 b) mark_pf) PF (bad 4) tt (omega arith))))))

sizes_low : (k a : ℕ) → sizes_refusal k a 0 ≤ 6
unfolding sizes_refusal
sizes_low k a =
    either (λ n. n ≤ 6) (eqb k 0 or ltb 256 k) 1 _ (omega arith) (either (λ n. n ≤ 6) (eqb a 0 or ltb k a) 2 0 (omega arith) (omega arith))

-- the numbers up to 6 are among them
module _ (P : ℕ → Type 0) (low : (n : ℕ) → n ≤ 6 → P n) where
  unless_low : (n : ℕ) (x : Answer) → n ≤ 6 → Among P x → Among P (unless n x)
  unless_low zero x h l = l
  unless_low (suc n) x h l = low (suc n) h

  ka_low : (m : Mark) (b : List ℕ) → LowMark m → Among P (ka_read m b)
  unfolding ka_read
  ka_low KA b h =
      either (Among P) (ltb (length b) 6) (refused 5) _ (low 5 (omega arith))
      (unless_low (sizes_refusal (num16 (drop 2 b)) (num16 (drop 4 b)) 0) _ (sizes_low (num16 (drop 2 b)) (num16 (drop 4 b))) tt)
  ka_low RQ b h = low 4 (omega arith)
  ka_low RR b h = low 4 (omega arith)
  ka_low EV b h = low 4 (omega arith)
  ka_low PF b h = low 4 (omega arith)
  ka_low (bad n) b h = low n h

  -- an offset past the end is 9; no other refusal is
  reader_low : (s : List ℕ) (at : ℕ) (x : Answer) → at ≤ length s → Among P x
      → Among P (pick (ltb (length s) at) (refused 9) (pick (eqb at 0) (ka_read (mark_at s) s) (pick (eqb at (length s)) ended x)))
  reader_low s at x h l =
      rw (le-ltb (length s) at h)
      (either (Among P) (eqb at 0) (ka_read (mark_at s) s) _ (ka_low (mark_at s) s (mark_low s)) (either (Among P) (eqb at (length s)) ended x tt l))

request_low : (m : Mark) (b : List ℕ) (at : ℕ) → LowMark m → Among TraceNumber (request_read m b at)
unfolding request_read rq_read rr_read
request_low RQ b at h = either (Among TraceNumber) (ltb (length b) 6) (refused 5) _ (inl (omega arith)) tt
request_low RR b at h =
    either (Among TraceNumber) (ltb (length b) 8) (refused 5) _ (inl (omega arith))
    (either (Among TraceNumber) (eqb (num16 (drop 6 b)) 0) (refused 13) _ (inr refl) tt)
request_low KA b at h = inl (omega arith)
request_low EV b at h = inl (omega arith)
request_low PF b at h = inl (omega arith)
request_low (bad n) b at h = inl h

entry_low : (m : Mark) (bound : ℕ) (b : List ℕ) (at : ℕ) → LowMark m → Among ScheduleNumber (entry_read m bound b at)
unfolding entry_read ev_read pf_read
entry_low EV bound b at h =
    either (Among ScheduleNumber) (ltb (length b) 8) (refused 5) _ (omega arith)
    (either (Among ScheduleNumber) (count_refused bound (num16 (drop 6 b))) (refused 6) _ (omega arith)
    (either (Among ScheduleNumber) (ltb (length b) (ev_length (num16 (drop 6 b)))) (refused 5) _ (omega arith) tt))
entry_low PF bound b at h = either (Among ScheduleNumber) (ltb (length b) 10) (refused 5) _ (omega arith) tt
entry_low KA bound b at h = omega arith
entry_low RQ bound b at h = omega arith
entry_low RR bound b at h = omega arith
entry_low (bad n) bound b at h = h

pub trace_low : (s : List ℕ) (at : ℕ) → at ≤ length s → Among TraceNumber (read_trace s at)
unfolding read_trace
trace_low s at h = reader_low TraceNumber (λ n l. inl l) s at _ h (request_low (mark_at (drop at s)) (drop at s) at (mark_low (drop at s)))

pub schedule_low : (bound : ℕ) (s : List ℕ) (at : ℕ) → at ≤ length s → Among ScheduleNumber (read_schedule bound s at)
unfolding read_schedule
schedule_low bound s at h = reader_low ScheduleNumber (λ n l. l) s at _ h (entry_low (mark_at (drop at s)) bound (drop at s) at (mark_low (drop at s)))

-- ---- a whole file: 0 where it has no damage

module _ {A : Type 0} (P : ℕ → Type 0) (none : P 0) (reader : ℕ → Answer) (holds : Answer → List A) (size : ℕ) (goes : (at : ℕ) → Goes size at (reader at))
    (among : (at : ℕ) → at ≤ size → Among P (reader at)) where
  onward_among : (at : ℕ) (x : Answer) (xs : List A) (go : ℕ → File A) → Goes size at x → Among P x
      → ((next : ℕ) → next ≤ size → P (go next).damage) → P (onward xs x go).damage
  onward_among at (refused n) xs go h l f = l
  onward_among at ended xs go h l f = none
  onward_among at (sizes k a next) xs go h l f = f next h.1
  onward_among at (request page times next) xs go h l f = f next h.1
  onward_among at (bundle t n from next) xs go h l f = f next h.1
  onward_among at (fetch t page next) xs go h l f = f next h.1

  walk_among : (f at : ℕ) → at ≤ size → P (walk reader holds f at).damage
  walk_among zero at h = none
  walk_among (suc f) at h = onward_among at (reader at) (holds (reader at)) (walk reader holds f) (goes at) (among at h) (λ next l. walk_among f next l)

pub requests_low : (s : List ℕ) (at : ℕ) → at ≤ length s → TraceNumber (requests_from s at).damage
unfolding requests_from
requests_low s at h = walk_among TraceNumber (inl (omega arith)) (read_trace s) pages_in (length s) (trace_goes s) (trace_low s) (suc (length s)) at h

pub entries_low : (bound : ℕ) (s : List ℕ) (at : ℕ) → at ≤ length s → ScheduleNumber (entries_from bound s at).damage
unfolding entries_from
entries_low bound s at h =
    walk_among ScheduleNumber (omega arith) (read_schedule bound s) (entries_in s) (length s) (schedule_goes bound s) (schedule_low bound s) (suc (length s)) at h
