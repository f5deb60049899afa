-- What each answer of a reader says of the file: the readers' tests are taken apart here, once, and nowhere else.
use Prim.Native.Nat.{ℕ, zero, suc, ◌+◌, ◌*◌, ◌<◌, ◌≤◌}
use native.Mathlib.Omega.{arith}
use mathlib.Core.Bool.{Bool, true, false}
use mathlib.Core.List.{List}
use mathlib.Core.Logic.{◌⊎◌, inl, inr}
use mathlib.Core.Path.{◌≡◌, refl, sym, ap, subst}
use lib.Dec.{eqb, ltb}
use lib.ListN.{length, drop, length-drop}
use lib.Seq.{drop-drop}
use borrow.Author.Tests.{ltb-false, eqb-true, eqb-false}
use Rattle.lists.specs.Choice.{pick, ◌or◌}
use Rattle.paging.specs.Refusals.{sizes_refusal}
use Rattle.wire.specs.Numbers.{num16, num32}
use Rattle.records.specs.Bytes.{ev_length}
use Rattle.records.specs.Marks.{Mark, KA, RQ, RR, EV, PF, bad, mark_of, mark_at, mark_ka, mark_rq, mark_rr, mark_ev, mark_pf}
use Rattle.reading.specs.Reading.{Answer, refused, ended, sizes, request, bundle, fetch, unless, ka_read, rq_read, rr_read, request_read, ev_read, pf_read, entry_read, count_refused}
use Rattle.reading.specs.Reading.{read_trace, read_schedule}

-- ---- the records as they stand in a file

pub record KaAt (s : List ℕ) (at k a next : ℕ) : Type 0 where
  pub start : at ≡ 0
  pub behind : next ≡ 6
  pub inside : 6 ≤ length s
  pub mark : num16 s ≡ mark_ka
  pub k_is : k ≡ num16 (drop 2 s)
  pub a_is : a ≡ num16 (drop 4 s)
  pub right : sizes_refusal k a 0 ≡ 0

pub record RqAt (s : List ℕ) (at page times next : ℕ) : Type 0 where
  pub behind : next ≡ at + 6
  pub inside : at + 6 ≤ length s
  pub mark : num16 (drop at s) ≡ mark_rq
  pub page_is : page ≡ num32 (drop (at + 2) s)
  pub once : times ≡ 1

pub record RrAt (s : List ℕ) (at page times next : ℕ) : Type 0 where
  pub behind : next ≡ at + 8
  pub inside : at + 8 ≤ length s
  pub mark : num16 (drop at s) ≡ mark_rr
  pub page_is : page ≡ num32 (drop (at + 2) s)
  pub times_is : times ≡ num16 (drop (at + 6) s)

-- one of the two, and what both have: it has at least one request and at most 8 bytes
pub record RequestAt (s : List ℕ) (at page times next : ℕ) : Type 0 where
  pub start : 0 < at
  pub some : 0 < times
  pub onward : at < next
  pub near : next ≤ at + 8
  pub inside : next ≤ length s
  pub form : RqAt s at page times next ⊎ RrAt s at page times next

pub record EvAt (bound : ℕ) (s : List ℕ) (at t n from next : ℕ) : Type 0 where
  pub start : 0 < at
  pub pages : from ≡ at + 8
  pub behind : next ≡ at + 8 + 4 * n
  pub inside : at + 8 + 4 * n ≤ length s
  pub mark : num16 (drop at s) ≡ mark_ev
  pub t_is : t ≡ num32 (drop (at + 2) s)
  pub n_is : n ≡ num16 (drop (at + 6) s)
  pub some : 0 < n
  pub bounded : n ≤ bound
  pub most : n ≤ 256

pub record PfAt (s : List ℕ) (at t page next : ℕ) : Type 0 where
  pub start : 0 < at
  pub behind : next ≡ at + 10
  pub inside : at + 10 ≤ length s
  pub mark : num16 (drop at s) ≡ mark_pf
  pub t_is : t ≡ num32 (drop (at + 2) s)
  pub page_is : page ≡ num32 (drop (at + 6) s)

pub record EndAt (s : List ℕ) (at : ℕ) : Type 0 where
  pub start : 0 < at
  pub last : at ≡ length s

-- ---- what each answer says; an answer that a reader never gives says what is false

abbrev pub TraceFacts : List ℕ → ℕ → Answer → Type 0
TraceFacts s at (refused n) = n ≡ 0 → ⊥
TraceFacts s at ended = EndAt s at
TraceFacts s at (sizes k a next) = KaAt s at k a next
TraceFacts s at (request page times next) = RequestAt s at page times next
TraceFacts s at (bundle t n from next) = ⊥
TraceFacts s at (fetch t page next) = ⊥

abbrev pub ScheduleFacts : ℕ → List ℕ → ℕ → Answer → Type 0
ScheduleFacts bound s at (refused n) = n ≡ 0 → ⊥
ScheduleFacts bound s at ended = EndAt s at
ScheduleFacts bound s at (sizes k a next) = KaAt s at k a next
ScheduleFacts bound s at (request page times next) = ⊥
ScheduleFacts bound s at (bundle t n from next) = EvAt bound s at t n from next
ScheduleFacts bound s at (fetch t page next) = PfAt s at t page next

-- ---- the tests, one after the other

-- what holds of both arms holds of a choice
by : {A : Type 0} (P : A → Type 0) (t : Bool) (x y : A) → (t ≡ true → P x) → (t ≡ false → P y) → P (pick t x y)
by P true x y f g = f refl
by P false x y f g = g refl

number : (n : ℕ) → suc n ≡ 0 → ⊥
number n e = omega arith

MarkFacts : List ℕ → Mark → Type 0
MarkFacts b KA = num16 b ≡ mark_ka
MarkFacts b RQ = num16 b ≡ mark_rq
MarkFacts b RR = num16 b ≡ mark_rr
MarkFacts b EV = num16 b ≡ mark_ev
MarkFacts b PF = num16 b ≡ mark_pf
MarkFacts b (bad n) = n ≡ 0 → ⊥

mark_facts : (b : List ℕ) → MarkFacts b (mark_at b)
unfolding mark_at mark_of MarkFacts
mark_facts b =
    by (MarkFacts b) (ltb (length b) 2) _ _ (λ e. number 4)
    (λ e. by (MarkFacts b) (eqb (num16 b) mark_ka) _ _ (eqb-true (num16 b) mark_ka)
    (λ e. by (MarkFacts b) (eqb (num16 b) mark_rq) _ _ (eqb-true (num16 b) mark_rq)
    (λ e. by (MarkFacts b) (eqb (num16 b) mark_rr) _ _ (eqb-true (num16 b) mark_rr)
    (λ e. by (MarkFacts b) (eqb (num16 b) mark_ev) _ _ (eqb-true (num16 b) mark_ev)
    (λ e. by (MarkFacts b) (eqb (num16 b) mark_pf) _ _ (eqb-true (num16 b) mark_pf) (λ e. number 3))))))

-- ---- KA: the same for both readers, whose facts P has

module _ (P : Answer → Type 0) (s : List ℕ) (at : ℕ) (start : at ≡ 0) (no_number : (n : ℕ) → (n ≡ 0 → ⊥) → P (refused n))
    (taken : (k a next : ℕ) → KaAt s at k a next → P (sizes k a next)) where
  ka_judged : (k a n : ℕ) → n ≡ sizes_refusal k a 0 → (sizes_refusal k a 0 ≡ 0 → KaAt s at k a 6) → P (unless n (sizes k a 6))
  ka_judged k a zero e f = taken k a 6 (f (sym e))
  ka_judged k a (suc n) e f = no_number (suc n) (number n)

  ka_facts : (m : Mark) → MarkFacts s m → P (ka_read m s)
  unfolding ka_read MarkFacts
  ka_facts KA f =
      by P (ltb (length s) 6) _ _ (λ e. no_number 5 (number 4))
      (λ e. let l : 6 ≤ length s = ltb-false (length s) 6 e in
      ka_judged (num16 (drop 2 s)) (num16 (drop 4 s)) (sizes_refusal (num16 (drop 2 s)) (num16 (drop 4 s)) 0) refl
      (λ r. record { start = start; behind = refl; inside = l; mark = f; k_is = refl; a_is = refl; right = r }))
  ka_facts RQ f = no_number 4 (number 3)
  ka_facts RR f = no_number 4 (number 3)
  ka_facts EV f = no_number 4 (number 3)
  ka_facts PF f = no_number 4 (number 3)
  ka_facts (bad n) f = no_number n f

-- ---- both readers: the offset's tests; x is what the reader gives behind the KA

reader_facts : (P : Answer → Type 0) (s : List ℕ) (at : ℕ) (x : Answer) → ((n : ℕ) → (n ≡ 0 → ⊥) → P (refused n))
    → ((k a next : ℕ) → KaAt s at k a next → P (sizes k a next)) → (EndAt s at → P ended) → (0 < at → at ≤ length s → P x)
    → P (pick (ltb (length s) at) (refused 9) (pick (eqb at 0) (ka_read (mark_at s) s) (pick (eqb at (length s)) ended x)))
reader_facts P s at x no_number taken end later =
    by P (ltb (length s) at) _ _ (λ e. no_number 9 (number 8))
    (λ e. by P (eqb at 0) _ _ (λ z. ka_facts P s at (eqb-true at 0 z) no_number taken (mark_at s) (mark_facts s))
    (λ z. let p : at ≡ 0 → ⊥ = eqb-false at 0 z in
    let q : 0 < at = omega arith in
    let l : at ≤ length s = ltb-false (length s) at e in
    by P (eqb at (length s)) _ _ (λ w. end (record { start = q; last = eqb-true at (length s) w })) (λ w. later q l)))

-- ---- RQ and RR

module _ (s : List ℕ) (at : ℕ) (start : 0 < at) (here : at ≤ length s) where
  rq_facts : num16 (drop at s) ≡ mark_rq → TraceFacts s at (rq_read (drop at s) at)
  unfolding rq_read
  rq_facts f =
      by (TraceFacts s at) (ltb (length (drop at s)) 6) _ _ (λ e. number 4)
      (λ e. let l : 6 ≤ length (drop at s) = ltb-false (length (drop at s)) 6 e in
      let i : at + 6 ≤ length s = omega (arith, length-drop at s) in
      record {
        start = start;
        some = omega arith;
        onward = omega arith;
        near = omega arith;
        inside = i;
        form = inl (record { behind = refl; inside = i; mark = f; page_is = ap num32 (drop-drop 2 at s); once = refl });
      })

  rr_facts : num16 (drop at s) ≡ mark_rr → TraceFacts s at (rr_read (drop at s) at)
  unfolding rr_read
  rr_facts f =
      by (TraceFacts s at) (ltb (length (drop at s)) 8) _ _ (λ e. number 4)
      (λ e. by (TraceFacts s at) (eqb (num16 (drop 6 (drop at s))) 0) _ _ (λ z. number 12)
      (λ z. let l : 8 ≤ length (drop at s) = ltb-false (length (drop at s)) 8 e in
      let n : num16 (drop 6 (drop at s)) ≡ 0 → ⊥ = eqb-false (num16 (drop 6 (drop at s))) 0 z in
      let i : at + 8 ≤ length s = omega (arith, length-drop at s) in
      record {
        start = start;
        some = positive (num16 (drop 6 (drop at s))) n;
        onward = omega arith;
        near = omega arith;
        inside = i;
        form = inr (record { behind = refl; inside = i; mark = f; page_is = ap num32 (drop-drop 2 at s); times_is = ap num16 (drop-drop 6 at s) });
      }))
    where
      positive : (n : ℕ) → (n ≡ 0 → ⊥) → 0 < n
      positive n h = omega arith

  request_facts : (m : Mark) → MarkFacts (drop at s) m → TraceFacts s at (request_read m (drop at s) at)
  unfolding request_read MarkFacts
  request_facts RQ f = rq_facts f
  request_facts RR f = rr_facts f
  request_facts KA f = number 3
  request_facts EV f = number 3
  request_facts PF f = number 3
  request_facts (bad n) f = f

  -- ---- EV and PF

  or_false : (x y : Bool) → (x or y) ≡ false → (x ≡ false) × (y ≡ false)
  unfolding ◌or◌
  or_false true y e = let z : ◌≡◌ {A = ℕ} 0 1 = cc in absurd (omega arith)
  or_false false y e = (refl, e)

  count_facts : (bound n : ℕ) → count_refused bound n ≡ false → (0 < n) × ((n ≤ bound) × (n ≤ 256))
  unfolding count_refused
  count_facts bound n e =
      let p : (eqb n 0 ≡ false) × ((ltb bound n or ltb 256 n) ≡ false) = or_false (eqb n 0) (ltb bound n or ltb 256 n) e in
      let q : (ltb bound n ≡ false) × (ltb 256 n ≡ false) = or_false (ltb bound n) (ltb 256 n) p.1 in
      let z : n ≡ 0 → ⊥ = eqb-false n 0 p.0 in
      (omega arith, (ltb-false bound n q.0, ltb-false 256 n q.1))

  ev_facts : (bound : ℕ) → num16 (drop at s) ≡ mark_ev → ScheduleFacts bound s at (ev_read bound (drop at s) at)
  unfolding ev_read
  ev_facts bound f =
      by (ScheduleFacts bound s at) (ltb (length (drop at s)) 8) _ _ (λ e. number 4)
      (λ e. by (ScheduleFacts bound s at) (count_refused bound (num16 (drop 6 (drop at s)))) _ _ (λ c. number 5)
      (λ c. by (ScheduleFacts bound s at) (ltb (length (drop at s)) (ev_length (num16 (drop 6 (drop at s))))) _ _ (λ l. number 4)
      (λ l. let r : ev_length (num16 (drop 6 (drop at s))) ≤ length (drop at s)
      = ltb-false (length (drop at s)) (ev_length (num16 (drop 6 (drop at s)))) l in
      let q : (0 < num16 (drop 6 (drop at s))) × ((num16 (drop 6 (drop at s)) ≤ bound) × (num16 (drop 6 (drop at s)) ≤ 256))
      = count_facts bound (num16 (drop 6 (drop at s))) c in
      record {
        start = start;
        pages = refl;
        behind = omega arith;
        inside = omega (arith, length-drop at s);
        mark = f;
        t_is = ap num32 (drop-drop 2 at s);
        n_is = ap num16 (drop-drop 6 at s);
        some = q.0;
        bounded = q.1.0;
        most = q.1.1;
      })))

  pf_facts : (bound : ℕ) → num16 (drop at s) ≡ mark_pf → ScheduleFacts bound s at (pf_read (drop at s) at)
  unfolding pf_read
  pf_facts bound f =
      by (ScheduleFacts bound s at) (ltb (length (drop at s)) 10) _ _ (λ e. number 4)
      (λ e. let l : 10 ≤ length (drop at s) = ltb-false (length (drop at s)) 10 e in
      record {
        start = start;
        behind = refl;
        inside = omega (arith, length-drop at s);
        mark = f;
        t_is = ap num32 (drop-drop 2 at s);
        page_is = ap num32 (drop-drop 6 at s);
      })

  entry_facts : (bound : ℕ) (m : Mark) → MarkFacts (drop at s) m → ScheduleFacts bound s at (entry_read m bound (drop at s) at)
  unfolding entry_read MarkFacts
  entry_facts bound EV f = ev_facts bound f
  entry_facts bound PF f = pf_facts bound f
  entry_facts bound KA f = number 3
  entry_facts bound RQ f = number 3
  entry_facts bound RR f = number 3
  entry_facts bound (bad n) f = f

-- ---- the facts of every answer

pub trace_facts : (s : List ℕ) (at : ℕ) → TraceFacts s at (read_trace s at)
unfolding read_trace
trace_facts s at =
    reader_facts (TraceFacts s at) s at (request_read (mark_at (drop at s)) (drop at s) at) (λ n z. z) (λ k a next f. f) (λ f. f)
    (λ q l. request_facts s at q l (mark_at (drop at s)) (mark_facts (drop at s)))

pub schedule_facts : (bound : ℕ) (s : List ℕ) (at : ℕ) → ScheduleFacts bound s at (read_schedule bound s at)
unfolding read_schedule
schedule_facts bound s at =
    reader_facts (ScheduleFacts bound s at) s at (entry_read (mark_at (drop at s)) bound (drop at s) at) (λ n z. z) (λ k a next f. f) (λ f. f)
    (λ q l. entry_facts s at q l bound (mark_at (drop at s)) (mark_facts (drop at s)))

-- an answer in hand says its facts
pub trace_says : (s : List ℕ) (at : ℕ) (x : Answer) → read_trace s at ≡ x → TraceFacts s at x
trace_says s at x e = subst (TraceFacts s at) e (trace_facts s at)

pub schedule_says : (bound : ℕ) (s : List ℕ) (at : ℕ) (x : Answer) → read_schedule bound s at ≡ x → ScheduleFacts bound s at x
schedule_says bound s at x e = subst (ScheduleFacts bound s at) e (schedule_facts bound s at)
