-- Laws behind one record of the schedule.
use Rattle.std.specs.Prelude.{Ok, Err}
use Prim.Native.Nat.{ℕ, ◌+◌, ◌-◌, ◌*◌, ◌≤◌, ◌<◌}
use native.Mathlib.Numerals.{add-one}
use native.Mathlib.Omega.{arith}
use mathlib.Core.Bool.{Bool, true, false}
use mathlib.Core.List.{List, [], ◌∷◌, ◌++◌, append-nil, append_assoc}
use mathlib.Core.Path.{◌≡◌, refl, sym, ◌∙◌}
use lib.Dec.{leb, ltb}
use lib.ListN.{length, drop}
use borrow.Author.Tests.{eq-eqb, ne_eqb, lt-ltb}
use Rattle.lists.specs.Choice.{◌and◌, ◌or◌}
use Rattle.lists.specs.Pages.{mem, erase_all}
use Rattle.lists.proofs.Choice.{tests, or_none, or_l, or_r}
use Rattle.lists.proofs.Leaves.{mem_append}
use Rattle.lists.proofs.Pages.{mem_append_l, mem_append_r}
use Rattle.paging.specs.Numbers.{number_of}
use Rattle.paging.specs.declared.reasons.Refusal.{Refusal}
use Rattle.paging.specs.Schedule.{Entry, ev, pf, time_of, held_in_turn}
use Rattle.wire.specs.Numbers.{num32}
use Rattle.cursor.specs.Cursor.{requests_left}
use Rattle.cursor.specs.declared.Rest.{Rest}
use Rattle.judging.specs.Judging.{Standing, on, stop, Closed, closed, overfull, closing, opened, acted, arrived, stepped}
use Rattle.judging.proofs.Exact.{closing_length}
use Rattle.judge.specs.declared.place.Files.{Files}
use Rattle.judge.specs.declared.place.Place.{Place}
use Rattle.judge.specs.inner.Fetches.{fetched_pages}
use Rattle.judge.specs.inner.Places.{standing, Sound, SoundAt, step_of, Moved}
use Rattle.judge.proofs.BufferLaws.{shorter_all}
use Rattle.judge.proofs.FetchLaws.{fetched_snoc}

-- The way to a request

and_true : (b : Bool) → b and true ≡ b
unfolding ◌and◌
and_true true = refl
and_true false = refl

and_false : (b : Bool) → b and false ≡ false
unfolding ◌and◌
and_false true = refl
and_false false = refl

module _ (k u : ℕ) (s : Standing) where
  pub arrives : s.t ≤ u → u < s.t + length s.trace → arrived k u s ≡ opened u s (closing k (u - s.t) s.trace s.held)
  arrives h l =
      let in-range : ltb u s.t or leb (s.t + length s.trace) u ≡ false = or_none _ _ (omega tests) (omega tests) in
      rw in-range

  pub falls : u < s.t → stop 6 ≡ arrived k u s
  falls h =
      let out : ltb u s.t or leb (s.t + length s.trace) u ≡ true = or_l _ _ (omega tests) in
      rw out

  pub no_request : s.t + length s.trace ≤ u → stop 6 ≡ arrived k u s
  no_request h =
      let out : ltb u s.t or leb (s.t + length s.trace) u ≡ true = or_r _ _ (omega tests) in
      rw out

  -- the request is open already
  pub stays : u ≡ s.t → u < s.t + length s.trace → on s ≡ arrived k u s
  stays e l =
      let none : u - s.t ≡ 0 = omega arith in
      sym (arrives (omega arith) l ∙ rw (none, e, eq-eqb s.t s.t refl, and_true s.fetched))

module _ (f : Files) (held : List ℕ) (p : Place) (u : ℕ) (g : Sound f held p) where
  pub late : f.requests ≤ u → stop 6 ≡ arrived f.k u (standing f held p)
  late h = let d = g.counted in no_request f.k u (standing f held p) (omega arith)

  pub there : u ≡ p.t → u < f.requests → on (standing f held p) ≡ arrived f.k u (standing f held p)
  there e h = let d = g.counted in stays f.k u (standing f held p) e (omega arith)

  -- where the requests before it are closed
  module _ (h : p.t < u) (l : u < f.requests) (after : List ℕ) where
    abbrev all : Closed
    all = closing f.k (u - p.t) (requests_left f.trace.now p.rest).held (held ++ fetched_pages f.schedule.now p.from p.fetches)

    pub seven : overfull ≡ all → stop 7 ≡ arrived f.k u (standing f held p)
    seven q =
        let d = g.counted in
        let w = arrives f.k u (standing f held p) (omega arith) (omega arith) in
        sym (w ∙ rw (← q) refl)

    module _ (rest : Rest) (q : closed (requests_left f.trace.now rest).held after ≡ all) where
      abbrev next : Place
      next = record { t = u; rest = rest; from = p.from + 10 * p.fetches; fetches = 0; bundles = p.bundles }

      pub opens : on (standing f after next) ≡ arrived f.k u (standing f held p)
      opens =
          let d = g.counted in
          let w = arrives f.k u (standing f held p) (omega arith) (omega arith) in
          sym (w ∙ rw (← q, append-nil after, ne_eqb u p.t (omega arith), and_false (ltb 0 p.fetches)))

      pub opens_sound : Moved f after p.rest rest → SoundAt f after (p.from + 10 * p.fetches) next
      opens_sound m =
          let d = g.counted in
          let size = closing_length f.k (u - p.t) (requests_left f.trace.now p.rest).held _ _ _ (omega arith) (sym q) in
          let b = g.behind in
          let i = g.inside in
          record {
            sound = record {
              size = g.size;
              room = m.room;
              inside = omega arith;
              behind = omega arith;
              started = m.started;
              undamaged = m.damage ∙ g.undamaged;
              counted = omega arith;
            };
            ends = omega arith;
          }

-- What the entry does there

module _ (f : Files) (k : ℕ) (held : List ℕ) (s : Standing) (e : Entry) where
  pub acts : (p : Place) → step_of f held (Ok p) ≡ arrived k (time_of e) s → acted e (standing f held p) ≡ stepped k e s
  acts p q = rw (← q) refl

  pub halts : (reason : Refusal) → step_of f held (Err reason) ≡ arrived k (time_of e) s → stop (number_of reason) ≡ stepped k e s
  halts reason q = rw (← q) refl

module _ (f : Files) (held : List ℕ) (p : Place) (g : Sound f held p) (u : ℕ) where
  pub ev_late : (pages : List ℕ) → 0 < p.fetches → stop 6 ≡ acted (ev u pages) (standing f held p)
  unfolding ◌or◌
  ev_late pages h = rw (lt-ltb 0 p.fetches h)

  pub ev_missing : (pages : List ℕ) → p.fetches ≤ 0 → false ≡ held_in_turn pages held → stop 6 ≡ acted (ev u pages) (standing f held p)
  unfolding ◌or◌
  ev_missing pages h e =
      let none : p.fetches ≡ 0 = omega arith in
      rw (none, append-nil held, ← e)

  module _ (next : ℕ) (pages after : List ℕ) (w : after ≡ erase_all pages held) where
    abbrev ev_place : Place
    ev_place = record { t = p.t; rest = p.rest; from = next; fetches = 0; bundles = p.bundles + 1 }

    pub ev_done : p.fetches ≤ 0 → true ≡ held_in_turn pages held → on (standing f after ev_place) ≡ acted (ev u pages) (standing f held p)
    unfolding ◌or◌
    ev_done h e =
        let none : p.fetches ≡ 0 = omega arith in
        rw (none, append-nil held, append-nil after, ← e, w, add-one p.bundles)

    pub ev_sound : p.from + 10 * p.fetches < next → next ≤ length f.schedule.now → SoundAt f after next ev_place
    ev_sound h l =
        let b = g.behind in
        let r = g.room in
        let z = shorter_all pages held in
        let y : length after ≤ length held = rw w z in
        record {
          sound = record {
            size = g.size;
            room = omega arith;
            inside = omega arith;
            behind = omega arith;
            started = g.started;
            undamaged = g.undamaged;
            counted = g.counted;
          };
          ends = omega arith;
        }

  pub pf_held : (page : ℕ) → true ≡ mem page held → stop 6 ≡ acted (pf u page) (standing f held p)
  pf_held page e = rw (mem_append_l page held (fetched_pages f.schedule.now p.from p.fetches) (sym e))

  pub pf_fetched : (page : ℕ) → true ≡ mem page (fetched_pages f.schedule.now p.from p.fetches) → stop 6 ≡ acted (pf u page) (standing f held p)
  pf_fetched page e = rw (mem_append_r page held (fetched_pages f.schedule.now p.from p.fetches) (sym e))

  abbrev pf_place : Place
  pf_place = record { t = p.t; rest = p.rest; from = p.from; fetches = p.fetches + 1; bundles = p.bundles }

  pub pf_done : (page : ℕ) → false ≡ mem page held → false ≡ mem page (fetched_pages f.schedule.now p.from p.fetches)
      → page ≡ num32 (drop (p.from + 10 * p.fetches + 6) f.schedule.now)
      → on (standing f held pf_place) ≡ acted (pf u page) (standing f held p)
  unfolding ◌or◌
  pf_done page a b e =
      let absent : mem page (held ++ fetched_pages f.schedule.now p.from p.fetches) ≡ false =
      rw (mem_append page held (fetched_pages f.schedule.now p.from p.fetches), ← a, ← b) in
      rw (
        absent,
        fetched_snoc f.schedule.now p.from p.fetches,
        ← e,
        lt-ltb 0 (p.fetches + 1) (omega arith),
        append_assoc held (fetched_pages f.schedule.now p.from p.fetches) (page ∷ []),
      )
