-- Laws behind reading on over the PFs of one request.
use Rattle.std.specs.Prelude.{Err}
use Prim.Native.Nat.{ℕ, ◌+◌, ◌-◌, ◌*◌, ◌≤◌, ◌<◌}
use native.Mathlib.Omega.{arith}
use mathlib.Core.Bool.{Bool, true, false}
use mathlib.Core.List.{List, [], ◌∷◌, ◌++◌, append_assoc}
use mathlib.Core.Path.{◌≡◌, refl, sym, ap, ◌∙◌}
use lib.Dec.{leb, ltb}
use lib.ListN.{length, drop}
use borrow.Author.Tests.{lt-ltb}
use Rattle.lists.specs.Choice.{◌or◌}
use Rattle.lists.specs.Pages.{mem}
use Rattle.lists.proofs.Choice.{cases, tests, or_none_l, or_none_r}
use Rattle.lists.proofs.Leaves.{mem_append}
use Rattle.lists.proofs.Pages.{mem_append_l}
use Rattle.repeats.specs.Bits.{words, is_marked, with_mark, AllMarked}
use Rattle.repeats.proofs.BitLaws.{all_more, unmarked}
use Rattle.paging.specs.declared.reasons.Refusal.TheVariants.{WrongRecord}
use Rattle.paging.specs.Schedule.{pf}
use Rattle.wire.specs.Numbers.{num32}
use Rattle.reading.specs.Files.{entries_from, before}
use Rattle.reading.specs.Reading.{read_schedule}
use Rattle.reading.specs.Reading as reading
use Rattle.reading.proofs.Facts.{schedule_says, PfAt}
use Rattle.reading.proofs.Walk.{entries_fetch}
use Rattle.judging.specs.Answer.{refused}
use Rattle.cursor.specs.Cursor.{requests_left}
use Rattle.judging.specs.Judging.{Standing, Step, on, stop, Closed, closed, overfull, closing, opened, acted, and_then, stepped}
use Rattle.judging.proofs.Exact.{closing_length}
use Rattle.judge.specs.declared.place.Files.{Files}
use Rattle.judge.specs.declared.place.Place.{Place}
use Rattle.judge.specs.inner.Fetches.{fetched_pages}
use Rattle.judge.specs.inner.Many.{fetching, More, ReadOn}
use Rattle.judge.specs.inner.Places.{standing, Sound}
use Rattle.judge.specs.inner.Verdicts.{place_answer}
use Rattle.judge.proofs.EntryLaws.{stays}
use Rattle.judge.proofs.FetchLaws.{fetched_snoc}

-- The record ahead

pub ahead_is : (a : ℕ) (s : List ℕ) (at t own page next : ℕ) → reading.fetch own page next ≡ read_schedule a s at → own ≡ t
    → read_schedule a s at ≡ reading.fetch t page (at + 10)
ahead_is a s at t own page next q w =
    let f = schedule_says a s at (reading.fetch own page next) (sym q) in
    sym q ∙ ap (λ (x : ℕ). reading.fetch x page next) w ∙ ap (λ (x : ℕ). reading.fetch t page x) f.behind

-- The pages that are known

module _ (page : ℕ) (held pages : List ℕ) where
  pub known_held : true ≡ mem page held → true ≡ mem page (held ++ pages)
  known_held e = sym (mem_append_l page held pages (sym e))

  pub known_fetched : (r : Bool) → false ≡ mem page held → r ≡ mem page pages → r ≡ mem page (held ++ pages)
  unfolding ◌or◌
  known_fetched r e f = f ∙ sym (rw (mem_append page held pages, ← e))

  pub known_not : (marks : List ℕ) → AllMarked marks pages → false ≡ mem page held → false ≡ is_marked marks page → false ≡ mem page (held ++ pages)
  known_not marks all e f = known_fetched false e (sym (unmarked marks pages page all f))

-- one more PF, and its mark
pub mark_next : (s : List ℕ) (from count : ℕ) (marks after : List ℕ) (page : ℕ) → length marks ≡ words → after ≡ with_mark marks page
    → page ≡ num32 (drop (from + 10 * count + 6) s) → AllMarked marks (fetched_pages s from count) → AllMarked after (fetched_pages s from (count + 1))
mark_next s from count marks after page size e w all =
    rw (e, fetched_snoc s from count, ← w) (all_more marks page size (fetched_pages s from count) all)

-- One PF of the open request

module _ (f : Files) (held : List ℕ) (p : Place) (page : ℕ) where
  abbrev here : ℕ
  here = p.from + 10 * p.fetches

  abbrev pages : List ℕ
  pages = held ++ fetched_pages f.schedule.now p.from p.fetches

  module _ (e : read_schedule f.a f.schedule.now here ≡ reading.fetch p.t page (here + 10)) where
    pub ahead_fact : PfAt f.schedule.now here p.t page (here + 10)
    ahead_fact = schedule_says f.a f.schedule.now here (reading.fetch p.t page (here + 10)) e

    module _ (some : 0 < length (requests_left f.trace.now p.rest).held) where
      acts_here : stepped f.k (pf p.t page) (standing f held p) ≡ acted (pf p.t page) (standing f held p)
      acts_here = rw (← stays f.k p.t (standing f held p) refl (omega arith))

      file : entries_from f.a f.schedule.now here ≡ before (pf p.t page ∷ []) (entries_from f.a f.schedule.now (here + 10))
      file = entries_fetch f.a f.schedule.now here p.t page (here + 10) e

      pub known_stops : true ≡ mem page pages → refused 6 ≡ place_answer f held p
      known_stops m = rw (file, acts_here, ← m)

      pub new_goes_on : false ≡ mem page pages → place_answer f held (fetching p (p.fetches + 1)) ≡ place_answer f held p
      new_goes_on m =
          let at : p.from + 10 * (p.fetches + 1) ≡ here + 10 = omega arith in
          rw (
            at,
            file,
            acts_here,
            ← m,
            fetched_snoc f.schedule.now p.from p.fetches,
            ← ahead_fact.page_is,
            lt-ltb 0 (p.fetches + 1) (omega arith),
            append_assoc held (fetched_pages f.schedule.now p.from p.fetches) (page ∷ []),
          )

-- The loop: what is left to read from so many PFs on gives what the whole gives, and their marks are set

pub record Reads (f : Files) (held : List ℕ) (p : Place) (fetches : ℕ) (marks : List ℕ) : Type 0 where
  pub further : p.fetches ≤ fetches
  pub inside : p.from + 10 * fetches ≤ length f.schedule.now
  pub all : AllMarked marks (fetched_pages f.schedule.now p.from fetches)
  pub answer : 0 < length (requests_left f.trace.now p.rest).held → place_answer f held (fetching p fetches) ≡ place_answer f held p

module _ (f : Files) (held : List ℕ) (p : Place) where
  module _ (fetches : ℕ) (marks : List ℕ) (r : Reads f held p fetches marks) where
    module _ (page : ℕ) (e : read_schedule f.a f.schedule.now (p.from + 10 * fetches) ≡ reading.fetch p.t page (p.from + 10 * fetches + 10)) where
      pub reads_inside : p.from + 10 * fetches + 10 ≤ length f.schedule.now
      reads_inside = (ahead_fact f held (fetching p fetches) page e).inside

      pub reads_stop : true ≡ mem page (held ++ fetched_pages f.schedule.now p.from fetches) → ReadOn f held p (Err WrongRecord)
      reads_stop m = record { answer = λ some. known_stops f held (fetching p fetches) page e some m ∙ r.answer some; more = tt }

      pub reads_next : length marks ≡ words → (after : List ℕ) → false ≡ mem page (held ++ fetched_pages f.schedule.now p.from fetches) → after ≡ with_mark marks page
          → Reads f held p (fetches + 1) after
      reads_next size after m w =
          let i = reads_inside in
          let l = r.further in
          record {
            further = omega arith;
            inside = omega arith;
            all = mark_next f.schedule.now p.from fetches marks after page size w (ahead_fact f held (fetching p fetches) page e).page_is r.all;
            answer = λ some. new_goes_on f held (fetching p fetches) page e some m ∙ r.answer some;
          }

-- After a PF its request is one of the trace

trace_of : Step → List ℕ
trace_of (on s) = s.trace
trace_of (stop number) = []

closed_more : (k u page n : ℕ) (trace held : List ℕ) (s next : Standing) (c : Closed) → closing k n trace held ≡ c → n < length trace
    → on next ≡ and_then (opened u s c) (acted (pf u page)) → 0 < length next.trace
unfolding trace_of
closed_more k u page n trace held s next overfull e l w = let z : ◌≡◌ {A = ℕ} 0 1 = cc in absurd (omega arith)
closed_more k u page n trace held s next (closed rest pages) e l w =
    let d = closing_length k n trace held rest pages (omega arith) e in
    cases (mem page pages)
    (λ m. let w' = rw m at w in let z : ◌≡◌ {A = ℕ} 0 1 = cc in absurd (omega arith))
    (λ m. let w' = rw m at w in
    let same : next.trace ≡ rest = ap (λ (x : Step). trace_of x) w' in
    omega (arith, ap length same))

pub stepped_more : (k u page : ℕ) (s next : Standing) → on next ≡ stepped k (pf u page) s → 0 < length next.trace
stepped_more k u page s next w =
    cases (ltb u s.t or leb (s.t + length s.trace) u)
    (λ out. let w' = rw out at w in let z : ◌≡◌ {A = ℕ} 0 1 = cc in absurd (omega arith))
    (λ e. let g = or_none_l _ _ e in
    let l = or_none_r _ _ e in
    closed_more k u page (u - s.t) s.trace s.held s next (closing k (u - s.t) s.trace s.held) refl (omega tests) (rw e at w))

-- A sound place stays sound

pub more_sound : (f : Files) (held : List ℕ) (p q : Place) → Sound f held p → More f.schedule.now p q → Sound f held q
more_sound f held p q g m =
    rw m.same
    (record {
      size = g.size;
      room = g.room;
      inside = m.inside;
      behind = g.behind;
      started = g.started;
      undamaged = g.undamaged;
      counted = g.counted;
    })
