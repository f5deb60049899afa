-- The record at an offset, and the next request: inside a run it is the run's page, else that of the record at the offset.
use Prim.Native.Nat.{ℕ, zero, suc, ◌+◌, ◌-◌, ◌≤◌, ◌<◌}
use native.Mathlib.Omega.{arith}
use mathlib.Core.List.{List, [], ◌∷◌}
use mathlib.Core.Path.{◌≡◌, refl, sym, ap, ◌∙◌}
use lib.ListN.{length, drop, replicate}
use Rattle.lists.proofs.Choice.{split}
use Rattle.wire.specs.Numbers.{num16, num32}
use Rattle.records.specs.Marks.{mark_rq, mark_rr}
use Rattle.reading.specs.Files.{File, requests_from, before}
use Rattle.reading.specs.Reading.{Answer, refused, ended, sizes, request, bundle, fetch, read_trace}
use Rattle.reading.proofs.Facts.{TraceFacts, trace_facts, trace_says, RequestAt, RqAt, RrAt}
use Rattle.reading.proofs.Walk.{requests_refused, requests_ended, requests_request}
use Rattle.cursor.specs.Cursor.{Begun, requests_left}
use Rattle.cursor.specs.declared.Rest.{Rest}

abbrev pub rest : (page times from : ℕ) → Rest
rest page times from = record { page = page; times = times; from = from }

-- one of a run is taken
run_less : (page times from : ℕ) (s : List ℕ) → 0 < times → before (replicate times page) (requests_from s from) ≡ before (page ∷ []) (requests_left s (rest page (times - 1) from))
unfolding requests_left
run_less page zero from s h = absurd (omega arith)
run_less page (suc n) from s h =
    let e : suc n - 1 ≡ n = omega arith in
    rw e

-- between two records
pub at_a_record : (s : List ℕ) (left : Rest) → left.times ≤ 0 → requests_left s left ≡ requests_from s left.from
unfolding requests_left
at_a_record s left h = let e : left.times ≡ 0 = omega arith in rw e

pub in_a_run : (s : List ℕ) (left : Rest) → 0 < left.times
    → requests_left s left ≡ before (left.page ∷ []) (requests_left s (rest left.page (left.times - 1) left.from))
unfolding requests_left
in_a_run s left h = run_less left.page left.times left.from s h

-- a record, where a request is left: the reader answers it
record Asked (s : List ℕ) (at : ℕ) : Type 0 where
  page : ℕ
  times : ℕ
  next : ℕ
  answers : read_trace s at ≡ request page times next

asked : (s : List ℕ) (at : ℕ) → 0 < at → 0 < length (requests_from s at).held → (x : Answer) → read_trace s at ≡ x → TraceFacts s at x → Asked s at
asked s at z h (refused n) e f = let size = ap (λ (g : File ℕ). length g.held) (requests_refused s at n e) in absurd (omega arith)
asked s at z h ended e f = let size = ap (λ (g : File ℕ). length g.held) (requests_ended s at e) in absurd (omega arith)
asked s at z h (sizes k a next) e f = let start = f.start in absurd (omega arith)
asked s at z h (request page times next) e f = record { page = page; times = times; next = next; answers = e }
asked s at z h (bundle t n from next) e f = absurd f
asked s at z h (fetch t page next) e f = absurd f

module _ (s : List ℕ) (at : ℕ) (z : 0 < at) (h : 0 < length (requests_from s at).held) where
  here : Asked s at
  here = asked s at z h (read_trace s at) refl (trace_facts s at)

  fact : RequestAt s at here.page here.times here.next
  fact = trace_says s at (request here.page here.times here.next) here.answers

  -- what the record holds is what is left
  begun_is : (page times next : ℕ) → here.page ≡ page → here.times ≡ times → here.next ≡ next → times ≤ 65535
      → Begun (rest page times next) × (requests_from s at ≡ requests_left s (rest page times next))
  unfolding requests_left
  begun_is page times next ep et en few =
      let f = fact.onward in
      let some = fact.some in (
        record { some = omega arith; few = few; started = omega arith },
        rw (← ep, ← et, ← en) (requests_request s at here.page here.times here.next here.answers),
      )

  -- the two records are told apart by the mark
  form : {A : Type 0} → (RqAt s at here.page here.times here.next → A) → (RrAt s at here.page here.times here.next → A) → A
  form single run = split fact.form single run

  pub record_inside : at + 6 ≤ length s
  record_inside = form (λ q. q.inside) (λ q. let i = q.inside in omega arith)

  module _ (mark : num16 (drop at s) ≡ mark_rr) where
    run_here : RrAt s at here.page here.times here.next
    run_here = form (λ q. let m : mark_rq ≡ mark_rr = sym q.mark ∙ mark in absurd (omega arith)) (λ q. q)

    pub run_inside : at + 8 ≤ length s
    run_inside = run_here.inside

    pub run_begun : (page times : ℕ) → page ≡ num32 (drop (at + 2) s) → times ≡ num16 (drop (at + 6) s) → times ≤ 65535
        → Begun (rest page times (at + 8)) × (requests_from s at ≡ requests_left s (rest page times (at + 8)))
    run_begun page times ep et few = begun_is page times (at + 8) (run_here.page_is ∙ sym ep) (run_here.times_is ∙ sym et) run_here.behind few

  module _ (mark : num16 (drop at s) ≡ mark_rr → ⊥) where
    single_here : RqAt s at here.page here.times here.next
    single_here = form (λ q. q) (λ q. absurd (mark q.mark))

    pub single_begun : (page : ℕ) → page ≡ num32 (drop (at + 2) s)
        → Begun (rest page 1 (at + 6)) × (requests_from s at ≡ requests_left s (rest page 1 (at + 6)))
    single_begun page ep = begun_is page 1 (at + 6) (single_here.page_is ∙ sym ep) single_here.once single_here.behind (omega arith)

pub ruleset record_rules = (record_inside, run_inside, single_begun)

-- between two records the requests left are those from the record on
pub some_there : (s : List ℕ) (left : Rest) → left.times ≤ 0 → 0 < length (requests_left s left).held → 0 < length (requests_from s left.from).held
some_there s left none h = rw (at_a_record s left none) at h
