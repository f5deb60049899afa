-- A file that reads without damage is the writers' bytes: of a schedule those of the entries that were read, of a trace those of records that stand for
-- the requests that were read. One law for each record, and the theorems over whole files.
use Prim.Native.Nat.{ℕ, zero, suc, ◌+◌, ◌*◌, ◌<◌, ◌≤◌}
use native.Mathlib.Omega.{arith}
use mathlib.Core.List.{List, [], ◌∷◌, ◌++◌}
use mathlib.Core.Logic.{◌⊎◌, inl, inr}
use mathlib.Core.Path.{◌≡◌, refl, sym, ap, ◌∙◌}
use lib.ListN.{length, drop, replicate, length-drop, take-append-drop, drop_of_length-le}
use lib.Seq.{drop-drop}
use Rattle.paging.specs.Schedule.{Entry}
use Rattle.wire.specs.Numbers.{Bytes, num16, num32, bytes16, bytes32, all_bytes32, nums32}
use Rattle.wire.proofs.Numbers.{bytes_drop, bytes16_num16, bytes32_num32, all_bytes32_nums32, length_nums32}
use Rattle.records.specs.Bytes.{ka_bytes, rq_bytes, rr_bytes, ev_bytes, pf_bytes, entry_bytes, joined, TraceEntry, rq, rr, trace_entry_bytes, requests_of, all_requests_of}
use Rattle.records.specs.Bytes.{RunWritable, RunsWritable, TraceFileOf, schedule_bytes}
use Rattle.records.specs.Marks.{mark_ka, mark_rq, mark_rr, mark_ev, mark_pf}
use Rattle.reading.specs.Files.{File, onward, walk, pages_in, requests_from, entries_in, entries_from}
use Rattle.reading.specs.Reading.{Answer, refused, ended, sizes, request, bundle, fetch, read_trace, read_schedule}
use Rattle.reading.proofs.Facts.{KaAt, RqAt, RrAt, RequestAt, EvAt, PfAt, TraceFacts, ScheduleFacts, trace_facts, schedule_facts, trace_says, schedule_says}
use Rattle.reading.proofs.Walk.{Goes, trace_goes, schedule_goes, requests_sizes, entries_sizes}

-- ---- a number that was read stands there

module _ (s : List ℕ) (h : Bytes s) where
  at16 : (at : ℕ) → at + 2 ≤ length s → drop at s ≡ bytes16 (num16 (drop at s)) ++ drop (at + 2) s
  at16 at l =
      sym (take-append-drop 2 (drop at s))
      ∙ (ap (λ (x : List ℕ). x ++ drop 2 (drop at s)) (sym (bytes16_num16 (drop at s) (bytes_drop s at h) (rw length-drop (omega arith))))
      ∙ ap (λ (x : List ℕ). bytes16 (num16 (drop at s)) ++ x) (drop-drop 2 at s))

  at32 : (at : ℕ) → at + 4 ≤ length s → drop at s ≡ bytes32 (num32 (drop at s)) ++ drop (at + 4) s
  at32 at l =
      sym (take-append-drop 4 (drop at s))
      ∙ (ap (λ (x : List ℕ). x ++ drop 4 (drop at s)) (sym (bytes32_num32 (drop at s) (bytes_drop s at h) (rw length-drop (omega arith))))
      ∙ ap (λ (x : List ℕ). bytes32 (num32 (drop at s)) ++ x) (drop-drop 4 at s))

  at_all : (at n : ℕ) → at + 4 * n ≤ length s → drop at s ≡ all_bytes32 (nums32 n (drop at s)) ++ drop (at + 4 * n) s
  at_all at n l =
      sym (take-append-drop (4 * n) (drop at s))
      ∙ (ap (λ (x : List ℕ). x ++ drop (4 * n) (drop at s)) (sym (all_bytes32_nums32 n (drop at s) (bytes_drop s at h) (rw length-drop (omega arith))))
      ∙ ap (λ (x : List ℕ). all_bytes32 (nums32 n (drop at s)) ++ x) (drop-drop (4 * n) at s))

  -- the same of a number in hand, and at an offset in hand
  in16 : (at next x : ℕ) → at + 2 ≤ length s → x ≡ num16 (drop at s) → next ≡ at + 2 → drop at s ≡ bytes16 x ++ drop next s
  in16 at next x l e n = rw (e, n) (at16 at l)

  in32 : (at next x : ℕ) → at + 4 ≤ length s → x ≡ num32 (drop at s) → next ≡ at + 4 → drop at s ≡ bytes32 x ++ drop next s
  in32 at next x l e n = rw (e, n) (at32 at l)

  -- ---- one law for each record

  pub ka_exact : (at k a next : ℕ) → KaAt s at k a next → s ≡ ka_bytes k a ++ drop 6 s
  ka_exact at k a next f =
      let i : 6 ≤ length s = f.inside in
      let e1 : s ≡ bytes16 mark_ka ++ drop 2 s = in16 0 2 mark_ka (omega arith) (sym f.mark) refl in
      let e2 : drop 2 s ≡ bytes16 k ++ drop 4 s = in16 2 4 k (omega arith) f.k_is refl in
      let e3 : drop 4 s ≡ bytes16 a ++ drop 6 s = in16 4 6 a (omega arith) f.a_is refl in
      e1 ∙ ap (λ (x : List ℕ). bytes16 mark_ka ++ x) (e2 ∙ ap (λ (x : List ℕ). bytes16 k ++ x) e3)

  pub rq_exact : (at page times next : ℕ) → RqAt s at page times next → drop at s ≡ rq_bytes page ++ drop next s
  rq_exact at page times next f =
      let i : at + 6 ≤ length s = f.inside in
      let n : next ≡ at + 6 = f.behind in
      let e1 : drop at s ≡ bytes16 mark_rq ++ drop (at + 2) s = in16 at (at + 2) mark_rq (omega arith) (sym f.mark) refl in
      let e2 : drop (at + 2) s ≡ bytes32 page ++ drop next s = in32 (at + 2) next page (omega arith) f.page_is (omega arith) in
      e1 ∙ ap (λ (x : List ℕ). bytes16 mark_rq ++ x) e2

  pub rr_exact : (at page times next : ℕ) → RrAt s at page times next → drop at s ≡ rr_bytes page times ++ drop next s
  rr_exact at page times next f =
      let i : at + 8 ≤ length s = f.inside in
      let n : next ≡ at + 8 = f.behind in
      let e1 : drop at s ≡ bytes16 mark_rr ++ drop (at + 2) s = in16 at (at + 2) mark_rr (omega arith) (sym f.mark) refl in
      let e2 : drop (at + 2) s ≡ bytes32 page ++ drop (at + 6) s = in32 (at + 2) (at + 6) page (omega arith) f.page_is (omega arith) in
      let e3 : drop (at + 6) s ≡ bytes16 times ++ drop next s = in16 (at + 6) next times (omega arith) f.times_is (omega arith) in
      e1 ∙ ap (λ (x : List ℕ). bytes16 mark_rr ++ x) (e2 ∙ ap (λ (x : List ℕ). bytes32 page ++ x) e3)

  pub pf_exact : (at t page next : ℕ) → PfAt s at t page next → drop at s ≡ pf_bytes t page ++ drop next s
  pf_exact at t page next f =
      let i : at + 10 ≤ length s = f.inside in
      let n : next ≡ at + 10 = f.behind in
      let e1 : drop at s ≡ bytes16 mark_pf ++ drop (at + 2) s = in16 at (at + 2) mark_pf (omega arith) (sym f.mark) refl in
      let e2 : drop (at + 2) s ≡ bytes32 t ++ drop (at + 6) s = in32 (at + 2) (at + 6) t (omega arith) f.t_is (omega arith) in
      let e3 : drop (at + 6) s ≡ bytes32 page ++ drop next s = in32 (at + 6) next page (omega arith) f.page_is (omega arith) in
      e1 ∙ ap (λ (x : List ℕ). bytes16 mark_pf ++ x) (e2 ∙ ap (λ (x : List ℕ). bytes32 t ++ x) e3)

  pub ev_exact : (bound at t n from next : ℕ) → EvAt bound s at t n from next
      → drop at s ≡ ev_bytes t (nums32 n (drop from s)) ++ drop next s
  ev_exact bound at t n from next f =
      let i : at + 8 + 4 * n ≤ length s = f.inside in
      let b : next ≡ at + 8 + 4 * n = f.behind in
      let p : from ≡ at + 8 = f.pages in
      let e1 : drop at s ≡ bytes16 mark_ev ++ drop (at + 2) s = in16 at (at + 2) mark_ev (omega arith) (sym f.mark) refl in
      let e2 : drop (at + 2) s ≡ bytes32 t ++ drop (at + 6) s = in32 (at + 2) (at + 6) t (omega arith) f.t_is (omega arith) in
      let e3 : drop (at + 6) s ≡ bytes16 (length (nums32 n (drop from s))) ++ drop from s
      = in16 (at + 6) from (length (nums32 n (drop from s))) (omega arith) (length_nums32 n (drop from s) ∙ f.n_is) (omega arith) in
      let q : from + 4 * n ≡ next = omega arith in
      let e4 : drop from s ≡ all_bytes32 (nums32 n (drop from s)) ++ drop next s
      = at_all from n (omega arith) ∙ ap (λ (m : ℕ). all_bytes32 (nums32 n (drop from s)) ++ drop m s) q in
      e1 ∙ ap (λ (x : List ℕ). bytes16 mark_ev ++ x) (e2 ∙ ap (λ (x : List ℕ). bytes32 t ++ x)
      (e3 ∙ ap (λ (x : List ℕ). bytes16 (length (nums32 n (drop from s))) ++ x) e4))

-- ---- records one behind the other

-- what an answer behind the KA has to say, where P tells of an offset what stands from there on to the end: it leads from the next offset to this one
abbrev Stands : {A : Type 0} → (ℕ → List A → Type 0) → (Answer → List A) → ℕ → Answer → Type 0
Stands P holds at (refused n) = n ≡ 0 → ⊥
Stands P holds at ended = P at []
Stands P holds at (sizes k a next) = ⊥
Stands P holds at (request page times next) = (rest : List _) → P next rest → P at (holds (request page times next) ++ rest)
Stands P holds at (bundle t n from next) = (rest : List _) → P next rest → P at (holds (bundle t n from next) ++ rest)
Stands P holds at (fetch t page next) = (rest : List _) → P next rest → P at (holds (fetch t page next) ++ rest)

module _ {A : Type 0} (P : ℕ → List A → Type 0) (holds : Answer → List A) (size : ℕ) where
  one : (at : ℕ) (x : Answer) (go : ℕ → File A) → Stands P holds at x → Goes size at x
      → ((next : ℕ) → at < next → next ≤ size → (go next).damage ≡ 0 → P next (go next).held) → (onward (holds x) x go).damage ≡ 0
      → P at (onward (holds x) x go).held
  one at (refused n) go st g h d = absurd (st d)
  one at ended go st g h d = st
  one at (sizes k a next) go st g h d = absurd st
  one at (request page times next) go st g h d = st (go next).held (h next g.0 g.1 d)
  one at (bundle t n from next) go st g h d = st (go next).held (h next g.0 g.1 d)
  one at (fetch t page next) go st g h d = st (go next).held (h next g.0 g.1 d)

  module _ (reader : ℕ → Answer) (stands : (at : ℕ) → 0 < at → Stands P holds at (reader at)) (goes : (at : ℕ) → Goes size at (reader at)) where
    walk_exact : (f at : ℕ) → 0 < at → at ≤ size → size < at + f → (walk reader holds f at).damage ≡ 0 → P at (walk reader holds f at).held
    walk_exact zero at p l m d = absurd (omega arith)
    walk_exact (suc f) at p l m d =
        one at (reader at) (walk reader holds f) (stands at p) (goes at)
        (λ next g i. walk_exact f next (omega arith) i (omega arith)) d

-- ---- the trace: its bytes are those of some records, which stand for the requests read. Which records they were is not told by the requests

pub record EntriesFor (b pages : List ℕ) : Type 0 where
  pub entries : List TraceEntry
  pub runs : RunsWritable entries
  pub bytes : b ≡ joined trace_entry_bytes entries
  pub requests : all_requests_of entries ≡ pages

-- one record more in front
in_front_lem : (e : TraceEntry) (b b' rest : List ℕ) → RunWritable e → b ≡ trace_entry_bytes e ++ b' → EntriesFor b' rest → EntriesFor b (requests_of e ++ rest)
in_front_lem e b b' rest w is x =
    record {
      entries = e ∷ x.entries;
      runs = (w, x.runs);
      bytes = is ∙ ap (λ (l : List ℕ). trace_entry_bytes e ++ l) x.bytes;
      requests = ap (λ (l : List ℕ). requests_of e ++ l) x.requests;
    }

module _ (s : List ℕ) (h : Bytes s) where
  request_stands : (at page times next : ℕ) → RequestAt s at page times next → (rest : List ℕ) → EntriesFor (drop next s) rest
      → EntriesFor (drop at s) (replicate times page ++ rest)
  request_stands at page times next f rest x = by_form f.form
    where
      by_form : RqAt s at page times next ⊎ RrAt s at page times next → EntriesFor (drop at s) (replicate times page ++ rest)
      by_form (inl q) = rw q.once (in_front_lem (rq page) (drop at s) (drop next s) rest tt (rq_exact s h at page times next q) x)
      by_form (inr q) = in_front_lem (rr page times) (drop at s) (drop next s) rest f.some (rr_exact s h at page times next q) x

  trace_stands : (at : ℕ) → 0 < at → (x : Answer) → TraceFacts s at x → Stands (λ i pages. EntriesFor (drop i s) pages) pages_in at x
  trace_stands at p (refused n) f = f
  trace_stands at p ended f = record { entries = []; runs = tt; bytes = drop_of_length-le s {i = at} (omega arith); requests = refl }
  trace_stands at p (sizes k a next) f = omega arith
  trace_stands at p (request page times next) f = request_stands at page times next f
  trace_stands at p (bundle t n from next) f = absurd f
  trace_stands at p (fetch t page next) f = absurd f

  -- the requests from an offset behind the KA on, read without damage: records that stand for them are the bytes from there on
  pub requests_exact : (at : ℕ) → 0 < at → at ≤ length s → (requests_from s at).damage ≡ 0 → EntriesFor (drop at s) (requests_from s at).held
  unfolding requests_from
  requests_exact at p l d =
      walk_exact (λ i pages. EntriesFor (drop i s) pages) pages_in (length s) (read_trace s) (λ i q. trace_stands i q (read_trace s i) (trace_facts s i)) (trace_goes s)
      (suc (length s)) at p l (omega arith) d

  -- a trace that reads without damage is a file of its requests
  pub trace_exact : (k a next : ℕ) → read_trace s 0 ≡ sizes k a next → (requests_from s 0).damage ≡ 0 → TraceFileOf k a (requests_from s 0).held s
  trace_exact k a next e d =
      let f : KaAt s 0 k a next = trace_says s 0 (sizes k a next) e in
      let n : next ≡ 6 = f.behind in
      let i : 6 ≤ length s = f.inside in
      let q : requests_from s 0 ≡ requests_from s 6 = requests_sizes s 0 k a next e ∙ ap (requests_from s) n in
      let x = requests_exact 6 (omega arith) i (ap (λ (y : File ℕ). y.damage) (sym q) ∙ d) in
      record {
        entries = x.entries;
        runs = x.runs;
        bytes = ka_exact s h 0 k a next f ∙ ap (λ (y : List ℕ). ka_bytes k a ++ y) x.bytes;
        requests = x.requests ∙ ap (λ (y : File ℕ). y.held) (sym q);
      }

-- ---- the schedule

schedule_stands : (bound : ℕ) (s : List ℕ) → Bytes s → (at : ℕ) → 0 < at → (x : Answer) → ScheduleFacts bound s at x
    → Stands (λ i entries. drop i s ≡ joined entry_bytes entries) (entries_in s) at x
schedule_stands bound s h at p (refused n) f = f
schedule_stands bound s h at p ended f = drop_of_length-le s {i = at} (omega arith)
schedule_stands bound s h at p (sizes k a next) f = omega arith
schedule_stands bound s h at p (request page times next) f = absurd f
schedule_stands bound s h at p (bundle t n from next) f =
    λ rest e. ev_exact s h bound at t n from next f ∙ ap (λ (x : List ℕ). ev_bytes t (nums32 n (drop from s)) ++ x) e
schedule_stands bound s h at p (fetch t page next) f = λ rest e. pf_exact s h at t page next f ∙ ap (λ (x : List ℕ). pf_bytes t page ++ x) e

pub entries_exact : (bound : ℕ) (s : List ℕ) → Bytes s → (at : ℕ) → 0 < at → at ≤ length s → (entries_from bound s at).damage ≡ 0
    → drop at s ≡ joined entry_bytes (entries_from bound s at).held
unfolding entries_from
entries_exact bound s h at p l d =
    walk_exact (λ i entries. drop i s ≡ joined entry_bytes entries) (entries_in s) (length s) (read_schedule bound s)
    (λ i q. schedule_stands bound s h i q (read_schedule bound s i) (schedule_facts bound s i)) (schedule_goes bound s) (suc (length s)) at p l (omega arith) d

-- a schedule that reads without damage is the bytes of its KA and its entries
pub schedule_exact : (bound : ℕ) (s : List ℕ) → Bytes s → (k a next : ℕ) → read_schedule bound s 0 ≡ sizes k a next
    → (entries_from bound s 0).damage ≡ 0 → s ≡ schedule_bytes k a (entries_from bound s 0).held
schedule_exact bound s h k a next e d =
    let f : KaAt s 0 k a next = schedule_says bound s 0 (sizes k a next) e in
    let n : next ≡ 6 = f.behind in
    let i : 6 ≤ length s = f.inside in
    let q : entries_from bound s 0 ≡ entries_from bound s 6 = entries_sizes bound s 0 k a next e ∙ ap (entries_from bound s) n in
    let r : drop 6 s ≡ joined entry_bytes (entries_from bound s 6).held = entries_exact bound s h 6 (omega arith) i (ap (λ (x : File Entry). x.damage) (sym q) ∙ d) in
    ka_exact s h 0 k a next f ∙ ap (λ (x : List ℕ). ka_bytes k a ++ x) (r ∙ ap (λ (x : File Entry). joined entry_bytes x.held) (sym q))
