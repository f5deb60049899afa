-- What the readers' definitions answer in each case, as the code tells the cases apart: by lengths from an offset on.
use Prim.Native.Nat.{ℕ, zero, suc, ◌+◌, ◌-◌, ◌*◌, ◌/◌, ◌<◌, ◌≤◌}
use native.Mathlib.Omega.{arith}
use mathlib.Core.Bool.{true, false}
use mathlib.Core.List.{List}
use mathlib.Core.Path.{◌≡◌, refl, sym, ap, ◌∙◌}
use lib.ListN.{length, drop, take, length-drop, drop_of_length-le}
use lib.Seq.{drop-drop, take_all, take-nil}
use borrow.Author.Tests.{lt-ltb, le-ltb, eq-eqb, ne_eqb}
use Rattle.lists.specs.Choice.{◌or◌}
use Rattle.paging.specs.Refusals.{sizes_refusal}
use Rattle.wire.specs.Numbers.{num16, num32}
use Rattle.records.specs.Bytes.{ev_length}
use Rattle.records.specs.Marks.{Mark, KA, bad, mark_of, mark_at}
use Rattle.records.proofs.Lengths.{ev_length_is}
use Rattle.reading.specs.Reading.{Answer, refused, ended, sizes, request, bundle, fetch, unless, ka_read, rq_read, rr_read, request_read, ev_read, pf_read, entry_read, count_refused}
use Rattle.reading.specs.Reading.{read_trace, read_schedule}
use Rattle.reading.specs.inner.Places.{read_at}

-- ---- marks

module _ (s : List ℕ) (at : ℕ) where
  pub mark_cut : length s - at < 2 → bad 5 ≡ mark_at (drop at s)
  unfolding mark_at
  mark_cut h = rw (length-drop at s, lt-ltb (length s - at) 2 h)

  pub mark_read : {m : Mark} → 2 ≤ length s - at → m ≡ mark_of (num16 (drop at s)) → m ≡ mark_at (drop at s)
  unfolding mark_at
  mark_read h e = rw (length-drop at s, le-ltb (length s - at) 2 h) e

pub ruleset mark_rules = (mark_cut, mark_read)

-- ---- KA

pub unless_not : (n : ℕ) (x : Answer) → (n ≡ 0 → ⊥) → refused n ≡ unless n x
unless_not zero x h = absurd (h refl)
unless_not (suc n) x h = refl

pub ka_cut : (s : List ℕ) → length s < 6 → refused 5 ≡ ka_read KA s
unfolding ka_read
ka_cut s h = rw (lt-ltb (length s) 6 h)

pub ka_judged : (s : List ℕ) (k a n : ℕ) → 6 ≤ length s → k ≡ num16 (drop 2 s) → a ≡ num16 (drop 4 s) → n ≡ sizes_refusal k a 0
    → (n ≡ 0 → ⊥) → refused n ≡ ka_read KA s
unfolding ka_read
ka_judged s k a n h ek ea en no0 =
    rw (le-ltb (length s) 6 h, ← ek, ← ea, ← en) (unless_not n _ no0)

pub ka_taken : (s : List ℕ) (k a n : ℕ) → 6 ≤ length s → k ≡ num16 (drop 2 s) → a ≡ num16 (drop 4 s) → n ≡ sizes_refusal k a 0
    → n ≡ 0 → sizes k a 6 ≡ ka_read KA s
unfolding ka_read
ka_taken s k a n h ek ea en is0 =
    rw (le-ltb (length s) 6 h, ← ek, ← ea, ← en, is0)

-- ---- RQ, RR, EV, PF at an offset

-- a field of the record at `at` is a field of the file
field16 : (s : List ℕ) (at i : ℕ) → num16 (drop i (drop at s)) ≡ num16 (drop (at + i) s)
field16 s at i = ap num16 (drop-drop i at s)

field32 : (s : List ℕ) (at i : ℕ) → num32 (drop i (drop at s)) ≡ num32 (drop (at + i) s)
field32 s at i = ap num32 (drop-drop i at s)

module _ (s : List ℕ) (at : ℕ) where
  pub rq_cut : length s - at < 6 → refused 5 ≡ rq_read (drop at s) at
  unfolding rq_read
  rq_cut h = rw (length-drop at s, lt-ltb (length s - at) 6 h)

  pub rq_taken : {page : ℕ} → 6 ≤ length s - at → page ≡ num32 (drop (at + 2) s) → request page 1 (at + 6) ≡ rq_read (drop at s) at
  unfolding rq_read
  rq_taken h e = rw (length-drop at s, le-ltb (length s - at) 6 h, field32 s at 2, ← e)

  pub rr_cut : length s - at < 8 → refused 5 ≡ rr_read (drop at s) at
  unfolding rr_read
  rr_cut h = rw (length-drop at s, lt-ltb (length s - at) 8 h)

  module _ (times : ℕ) (h : 8 ≤ length s - at) (e : times ≡ num16 (drop (at + 6) s)) where
    pub rr_none : times ≡ 0 → refused 13 ≡ rr_read (drop at s) at
    unfolding rr_read
    rr_none z = rw (length-drop at s, le-ltb (length s - at) 8 h, field16 s at 6, ← e, eq-eqb times 0 z)

    pub rr_taken : {page : ℕ} → (times ≡ 0 → ⊥) → page ≡ num32 (drop (at + 2) s) → request page times (at + 8) ≡ rr_read (drop at s) at
    unfolding rr_read
    rr_taken z ep = rw (length-drop at s, le-ltb (length s - at) 8 h, field16 s at 6, ← e, ne_eqb times 0 z, field32 s at 2, ← ep)

  pub pf_cut : length s - at < 10 → refused 5 ≡ pf_read (drop at s) at
  unfolding pf_read
  pf_cut h = rw (length-drop at s, lt-ltb (length s - at) 10 h)

  pub pf_taken : {t page : ℕ} → 10 ≤ length s - at → t ≡ num32 (drop (at + 2) s) → page ≡ num32 (drop (at + 6) s)
      → fetch t page (at + 10) ≡ pf_read (drop at s) at
  unfolding pf_read
  pf_taken h et ep = rw (length-drop at s, le-ltb (length s - at) 10 h, field32 s at 2, field32 s at 6, ← et, ← ep)

  pub ev_cut : (bound : ℕ) → length s - at < 8 → refused 5 ≡ ev_read bound (drop at s) at
  unfolding ev_read
  ev_cut bound h = rw (length-drop at s, lt-ltb (length s - at) 8 h)

  module _ (bound n : ℕ) (h : 8 ≤ length s - at) (e : n ≡ num16 (drop (at + 6) s)) where
    pub ev_count : count_refused bound n ≡ true → refused 6 ≡ ev_read bound (drop at s) at
    unfolding ev_read
    ev_count c = rw (length-drop at s, le-ltb (length s - at) 8 h, field16 s at 6, ← e, c)

    pub ev_pages_cut : count_refused bound n ≡ false → length s - at < ev_length n → refused 5 ≡ ev_read bound (drop at s) at
    unfolding ev_read
    ev_pages_cut c l =
        rw (length-drop at s, le-ltb (length s - at) 8 h, field16 s at 6, ← e, c)
        (rw (lt-ltb (length s - at) (ev_length n) l))

    pub ev_taken : {t : ℕ} → count_refused bound n ≡ false → ev_length n ≤ length s - at → t ≡ num32 (drop (at + 2) s)
        → bundle t n (at + 8) (at + ev_length n) ≡ ev_read bound (drop at s) at
    unfolding ev_read
    ev_taken c l et =
        rw (length-drop at s, le-ltb (length s - at) 8 h, field16 s at 6, ← e, c)
        (rw (le-ltb (length s - at) (ev_length n) l, field32 s at 2, ← et))

-- ---- an EV's n

module _ (bound n : ℕ) where
  pub count_none : n ≡ 0 → count_refused bound n ≡ true
  unfolding count_refused ◌or◌
  count_none h = rw (eq-eqb n 0 h)

  pub count_above : (n ≡ 0 → ⊥) → bound < n → count_refused bound n ≡ true
  unfolding count_refused ◌or◌
  count_above z h = rw (ne_eqb n 0 z, lt-ltb bound n h)

  pub count_far : (n ≡ 0 → ⊥) → n ≤ bound → 256 < n → count_refused bound n ≡ true
  unfolding count_refused ◌or◌
  count_far z h f = rw (ne_eqb n 0 z, le-ltb bound n h, lt-ltb 256 n f)

  pub count_fine : (n ≡ 0 → ⊥) → n ≤ bound → n ≤ 256 → count_refused bound n ≡ false
  unfolding count_refused ◌or◌
  count_fine z h f = rw (ne_eqb n 0 z, le-ltb bound n h, le-ltb 256 n f)

pub ruleset ka_rules = (ka_cut, ka_judged, ka_taken)

pub ruleset rq_rules = (rq_cut, rq_taken)

pub ruleset pf_rules = (pf_cut, pf_taken)

pub ruleset run_rules = (rr_cut, rr_none, rr_taken)

pub ruleset bundle_rules =
    (ev_cut, ev_count, ev_pages_cut, ev_taken, count_none, count_above, count_far, count_fine, ev_length_is)

-- ---- both readers: where the offset lies

module _ (s : List ℕ) (at : ℕ) (x : Answer) where
  pub place_past : length s < at → refused 9 ≡ read_at s at x
  place_past h = rw (lt-ltb (length s) at h)

  pub place_first : {y : Answer} → at ≡ 0 → y ≡ ka_read (mark_at s) s → y ≡ read_at s at x
  place_first h e =
      let l : at ≤ length s = omega arith in
      rw (le-ltb (length s) at l, eq-eqb at 0 h) e

  pub place_last : at ≤ length s → (at ≡ 0 → ⊥) → at ≡ length s → ended ≡ read_at s at x
  place_last l z e = rw (le-ltb (length s) at l, ne_eqb at 0 z, eq-eqb at (length s) e)

  pub place_inside : at ≤ length s → (at ≡ 0 → ⊥) → (at ≡ length s → ⊥) → x ≡ read_at s at x
  place_inside l z e = rw (le-ltb (length s) at l, ne_eqb at 0 z, ne_eqb at (length s) e)

pub ruleset place_rules = (place_past, place_first, place_last, place_inside)

module _ (s : List ℕ) (at : ℕ) {y : Answer} where
  pub trace_by_place : y ≡ read_at s at (request_read (mark_at (drop at s)) (drop at s) at) → y ≡ read_trace s at
  unfolding read_trace
  trace_by_place e = e

  pub trace_first : at ≡ 0 → y ≡ ka_read (mark_at s) s → y ≡ read_trace s at
  trace_first h e = trace_by_place (place_first s at _ h e)

  pub trace_later : at ≤ length s → (at ≡ 0 → ⊥) → (at ≡ length s → ⊥) → y ≡ request_read (mark_at (drop at s)) (drop at s) at → y ≡ read_trace s at
  trace_later l z e q = trace_by_place (q ∙ place_inside s at _ l z e)

pub trace_last : (s : List ℕ) (at : ℕ) → at ≤ length s → (at ≡ 0 → ⊥) → at ≡ length s → ended ≡ read_trace s at
trace_last s at l z e = trace_by_place s at (place_last s at _ l z e)

module _ (bound : ℕ) (s : List ℕ) (at : ℕ) {y : Answer} where
  pub schedule_by_place : y ≡ read_at s at (entry_read (mark_at (drop at s)) bound (drop at s) at) → y ≡ read_schedule bound s at
  unfolding read_schedule
  schedule_by_place e = e

  pub schedule_first : at ≡ 0 → y ≡ ka_read (mark_at s) s → y ≡ read_schedule bound s at
  schedule_first h e = schedule_by_place (place_first s at _ h e)

  pub schedule_later : at ≤ length s → (at ≡ 0 → ⊥) → (at ≡ length s → ⊥)
      → y ≡ entry_read (mark_at (drop at s)) bound (drop at s) at → y ≡ read_schedule bound s at
  schedule_later l z e q = schedule_by_place (q ∙ place_inside s at _ l z e)

pub schedule_last : (bound : ℕ) (s : List ℕ) (at : ℕ) → at ≤ length s → (at ≡ 0 → ⊥) → at ≡ length s → ended ≡ read_schedule bound s at
schedule_last bound s at l z e = schedule_by_place bound s at (place_last s at _ l z e)

-- ---- the part of a file that an EV's pages are

module _ (s : List ℕ) (from n : ℕ) where
  pub pages_none : length s < from → take 0 s ≡ take (4 * n) (drop from s)
  pages_none h =
      let e : length s ≤ from = omega arith in
      rw (drop_of_length-le s e, take-nil (4 * n))

  pub pages_rest : from ≤ length s → (length s - from) / 4 < n → take (length s - from) (drop from s) ≡ take (4 * n) (drop from s)
  pages_rest h l =
      take_all (length s - from) (drop from s) (rw length-drop (omega arith))
      ∙ sym (take_all (4 * n) (drop from s) (rw length-drop (omega arith)))

  pub pages_whole : take (from + 4 * n - from) (drop from s) ≡ take (4 * n) (drop from s)
  pages_whole =
      let e : from + 4 * n - from ≡ 4 * n = omega arith in
      ap (λ (m : ℕ). take m (drop from s)) e

pub ruleset pages_rules = (pages_none, pages_rest, pages_whole)
