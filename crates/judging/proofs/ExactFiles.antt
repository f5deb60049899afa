-- Exactness over files: the judge answers the cost c exactly if the two files are, byte for byte, a file of a trace and a legal schedule of it
-- with the cost c.
use Prim.Native.Nat.{ℕ, zero, suc, ◌≤◌}
use native.Mathlib.Omega.{arith}
use mathlib.Core.Bool.{true}
use mathlib.Core.List.{List, [], ◌∷◌}
use mathlib.Core.Logic.{◌↔◌}
use mathlib.Core.Path.{◌≡◌, refl, sym, ap, ◌∙◌}
use lib.Dec.{eqb, leb}
use lib.ListN.{length, drop}
use borrow.Author.Tests.{eq-eqb}
use Rattle.lists.specs.Choice.{◌and◌}
use Rattle.lists.proofs.Choice.{cases, tests, and_l, and_r, and_i}
use Rattle.paging.specs.Refusals.{SizesRight, longest_trace}
use Rattle.paging.specs.Schedule.{Entry, ev, pf, serves, entries_cost}
use Rattle.wire.specs.Numbers.{Bytes}
use Rattle.wire.proofs.Numbers.{length_nums32}
use Rattle.records.specs.Bytes.{schedule_bytes, AllWritable}
use Rattle.reading.specs.Files.{File, walk, onward, entries_in, requests_from, entries_from}
use Rattle.reading.specs.Reading.{read_schedule}
use Rattle.reading.specs.Reading as reading
use Rattle.reading.proofs.Exact.{trace_exact, schedule_exact}
use Rattle.reading.proofs.Facts.{schedule_facts, ScheduleFacts}
use Rattle.reading.proofs.RoundTrip.{schedule_reads_back}
use Rattle.reading.proofs.Walk.{requests_sizes, entries_sizes}
use Rattle.traces.specs.Traces.{TraceFile, whole, damaged, trace_file}
use Rattle.traces.proofs.Whole.{WholeTrace, file_says, file_of_a_trace}
use Rattle.judging.specs.Answer.{Answer, cost, refused}
use Rattle.judging.specs.Files.{behind_ka, behind_trace, schedule_judged, judged}
use Rattle.judging.specs.Judging.{judged_from, stands_first}
use Rattle.judging.specs.LegalFiles.{LegalFiles}
use Rattle.judging.proofs.Exact.{sized, sized_entry, no_cost, no_damage, exact}

-- A bundle that was read has 1 to a pages

module _ (bound : ℕ) (s : List ℕ) where
  sized_onward : (at : ℕ) (x : reading.Answer) (go : ℕ → File Entry) → ScheduleFacts bound s at x → ((next : ℕ) → sized bound (go next).held ≡ true)
      → sized bound (onward (entries_in s x) x go).held ≡ true
  sized_onward at (reading.refused n) go f h = refl
  sized_onward at reading.ended go f h = refl
  sized_onward at (reading.sizes k a next) go f h = h next
  sized_onward at (reading.request page times next) go f h = absurd f
  sized_onward at (reading.bundle t n from next) go f h =
      let size = length_nums32 n (drop from s) in
      let low = f.some in
      let high = f.bounded in
      and_i _ _ (and_i _ _ (omega tests) (omega tests)) (h next)
  sized_onward at (reading.fetch t page next) go f h = and_i _ _ refl (h next)

  sized_walk : (f at : ℕ) → sized bound (walk (read_schedule bound s) (entries_in s) f at).held ≡ true
  sized_walk zero at = refl
  sized_walk (suc f) at = sized_onward at (read_schedule bound s at) (walk (read_schedule bound s) (entries_in s) f) (schedule_facts bound s at) (sized_walk f)

  sized_read : (at : ℕ) → sized bound (entries_from bound s at).held ≡ true
  unfolding entries_from
  sized_read at = sized_walk (suc (length s)) at

writable : (a : ℕ) (es : List Entry) → a ≤ 256 → sized a es ≡ true → AllWritable a es
writable a [] h z = tt
writable a (ev t pages ∷ es) h z =
    let w = and_l (sized_entry a (ev t pages)) _ z in
    let low = and_l (leb 1 (length pages)) _ w in
    let high = and_r (leb 1 (length pages)) _ w in
    ((omega tests, (omega tests, omega tests)), writable a es h (and_r (sized_entry a (ev t pages)) _ z))
writable a (pf t page ∷ es) h z = (tt, writable a es h (and_r (sized_entry a (pf t page)) _ z))

-- Where a cost can come from

behind_ka_lem : (x : reading.Answer) (go : ℕ → ℕ → ℕ → Answer) (c : ℕ) → behind_ka x go ≡ cost c
    → (k a next : ℕ) × (x ≡ reading.sizes k a next) × (go k a next ≡ cost c)
behind_ka_lem (reading.refused n) go c e = absurd (no_cost e)
behind_ka_lem (reading.sizes k a next) go c e = (k, a, next, refl, e)
behind_ka_lem reading.ended go c e = absurd (no_cost e)
behind_ka_lem (reading.request page times next) go c e = absurd (no_cost e)
behind_ka_lem (reading.bundle t n from next) go c e = absurd (no_cost e)
behind_ka_lem (reading.fetch t page next) go c e = absurd (no_cost e)

behind_trace_lem : (x : TraceFile) (go : ℕ → ℕ → List ℕ → Answer) (c : ℕ) → behind_trace x go ≡ cost c
    → (k a : ℕ) × (pages : List ℕ) × (x ≡ whole k a pages) × (go k a pages ≡ cost c)
behind_trace_lem (whole k a pages) go c e = (k, a, pages, refl, e)
behind_trace_lem (damaged n) go c e = absurd (no_cost e)

-- The two halves

-- a schedule that costs something to a trace
record Costs (k a : ℕ) (pages schedule : List ℕ) (c : ℕ) : Type 0 where
  entries : List Entry
  bytes : schedule ≡ schedule_bytes k a entries
  serving : serves k a pages entries ≡ true
  costing : c ≡ entries_cost entries

module _ (k a : ℕ) (pages schedule : List ℕ) (c : ℕ) where
  own_ka : (k' a' next : ℕ) → Bytes schedule → read_schedule a schedule 0 ≡ reading.sizes k' a' next → k' ≡ k → a' ≡ a
      → judged_from k (entries_from a schedule next).damage (entries_from a schedule next).held (stands_first pages) ≡ cost c → Costs k a pages schedule c
  own_ka k' a' next bs r ek ea e =
      let whole = no_damage k (entries_from a schedule next).damage c (entries_from a schedule next).held (stands_first pages) e in
      let same = entries_sizes a schedule 0 k' a' next r in
      let undamaged : (entries_from a schedule 0).damage ≡ 0 = ap (λ (f : File Entry). f.damage) same ∙ whole in
      let bytes = schedule_exact a schedule bs k' a' next r undamaged in
      let d = (exact k a pages (entries_from a schedule next).held c).0 (sized_read a schedule next, rw whole at e) in
      record { entries = (entries_from a schedule next).held; bytes = rw (same, ek, ea) at bytes; serving = d.0; costing = d.1 }

  schedule_sound : Bytes schedule → schedule_judged k a pages schedule ≡ cost c → Costs k a pages schedule c
  schedule_sound bs e =
      let x = behind_ka_lem (read_schedule a schedule 0) _ c e in
      let k' = x.0 in
      let a' = x.1 in
      let next = x.2 in
      let w = x.4 in
      cases (eqb k' k and eqb a' a)
      (λ m.
      let mk = and_l (eqb k' k) (eqb a' a) m in
      let ma = and_r (eqb k' k) (eqb a' a) m in
      own_ka k' a' next bs x.3 (omega tests) (omega tests) (rw m at w))
      (λ m. let z : refused 6 ≡ cost c = rw m at w in absurd (no_cost z))

  schedule_complete : (es : List Entry) → SizesRight k a → schedule ≡ schedule_bytes k a es → serves k a pages es ≡ true → c ≡ entries_cost es
      → schedule_judged k a pages schedule ≡ cost c
  unfolding ◌and◌
  schedule_complete es right b l w =
      let d = (exact k a pages es c).1 (l, w) in
      let r = schedule_reads_back a k a es right (writable a es (omega arith) d.0) in
      let first : read_schedule a schedule 0 ≡ reading.sizes k a 6 = rw b r.0 in
      let rest : entries_from a schedule 6 ≡ record { held = es; damage = 0 } = sym (entries_sizes a schedule 0 k a 6 first) ∙ rw b r.1 in
      rw (first, eq-eqb k k refl, eq-eqb a a refl, rest) d.1

module _ (trace schedule : List ℕ) (c : ℕ) where
  pub sound : Bytes trace → Bytes schedule → judged trace schedule ≡ cost c → LegalFiles trace schedule c
  unfolding judged
  sound bt bs e =
      let x = behind_trace_lem (trace_file longest_trace trace) (λ k a pages. schedule_judged k a pages schedule) c e in
      let k = x.0 in
      let a = x.1 in
      let pages = x.2 in
      let w : WholeTrace longest_trace trace k a pages = file_says longest_trace trace (whole k a pages) x.3 in
      let read : requests_from trace 0 ≡ record { held = pages; damage = 0 } = requests_sizes trace 0 k a 6 w.starts ∙ w.read in
      let bytes = trace_exact trace bt k a 6 w.starts (ap (λ (f : File ℕ). f.damage) read) in
      let d = schedule_sound k a pages schedule c bs x.4 in
      record {
        k = k;
        a = a;
        pages = pages;
        entries = d.entries;
        sizes = w.right;
        few = w.few;
        trace_is = rw read at bytes;
        schedule_is = d.bytes;
        legal = d.serving;
        costs = d.costing;
      }

  pub complete : LegalFiles trace schedule c → judged trace schedule ≡ cost c
  unfolding judged
  complete f =
      let k = f.k in
      let a = f.a in
      let j = schedule_complete k a f.pages schedule c f.entries f.sizes f.schedule_is f.legal f.costs in
      rw (file_of_a_trace longest_trace k a f.pages trace f.sizes f.trace_is f.few) j

  -- the judge answers the cost c exactly if the files are a trace and a legal schedule of it that costs c
  pub judge_exact : Bytes trace → Bytes schedule → (judged trace schedule ≡ cost c) ↔ LegalFiles trace schedule c
  judge_exact bt bs = (sound bt bs, complete)
