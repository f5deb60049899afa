-- Laws behind the run over a schedule's records.
use Rattle.std.specs.Prelude.{Result, Ok, Err}
use Prim.Native.Nat.{ℕ, ◌+◌, ◌*◌, ◌<◌}
use native.Mathlib.Omega.{arith}
use mathlib.Core.List.{List, [], ◌∷◌}
use mathlib.Core.Path.{◌≡◌, refl, sym, ap, ◌∙◌}
use lib.ListN.{drop}
use borrow.Author.Tests.{ne_eqb}
use Rattle.paging.specs.Numbers.{number_of}
use Rattle.paging.specs.declared.reasons.Refusal.{Refusal}
use Rattle.paging.specs.Schedule.{Entry, ev, pf}
use Rattle.wire.specs.Numbers.{nums32}
use Rattle.reading.specs.Files.{entries_from, before}
use Rattle.reading.specs.Reading.{read_schedule}
use Rattle.reading.specs.Reading as reading
use Rattle.reading.proofs.Facts.{schedule_says, EvAt, PfAt}
use Rattle.reading.proofs.Walk.{entries_refused, entries_ended, entries_bundle, entries_fetch}
use Rattle.judging.specs.Answer.{refused}
use Rattle.judging.specs.Judging.{stepped, ended}
use Rattle.judge.specs.declared.place.Files.{Files}
use Rattle.judge.specs.declared.place.Place.{Place}
use Rattle.judge.specs.inner.Many.{ReadOn, More}
use Rattle.judge.specs.inner.Places.{standing, Sound, SoundAt, step_of}
use Rattle.judge.specs.inner.Verdicts.{place_answer, step_answer, Onward}
use Rattle.judge.proofs.ManyLaws.{stepped_more, more_sound}

-- One record

module _ (f : Files) (held : List ℕ) (p : Place) (g : Sound f held p) where
  abbrev here : ℕ
  here = p.from + 10 * p.fetches

  module _ (e : Entry) (next : ℕ) (w : entries_from f.a f.schedule.now here ≡ before (e ∷ []) (entries_from f.a f.schedule.now next)) (after : List ℕ) where
    goes_on : (q : Place) → step_of f after (Ok q) ≡ stepped f.k e (standing f held p) → q.from + 10 * q.fetches ≡ next → place_answer f after q ≡ place_answer f held p
    goes_on q s d = rw (w, ← s, d)

    halts : (reason : Refusal) → step_of f after (Err reason) ≡ stepped f.k e (standing f held p) → refused (number_of reason) ≡ place_answer f held p
    halts reason s = rw (w, ← s)

  further_on : (next : ℕ) (after : List ℕ) (q : Place) → here < next → SoundAt f after next q → Onward f after p q
  further_on next after q l d = record { sound = d.sound; further = let z = d.ends in omega arith }

  module _ (t n from next : ℕ) (w : reading.bundle t n from next ≡ read_schedule f.a f.schedule.now here) where
    pub ev_fact : EvAt f.a f.schedule.now here t n from next
    ev_fact = schedule_says f.a f.schedule.now here (reading.bundle t n from next) (sym w)

    module _ (after : List ℕ) where
      pub ev_goes_on : (q : Place) → step_of f after (Ok q) ≡ stepped f.k (ev t (nums32 n (drop from f.schedule.now))) (standing f held p) → SoundAt f after next q
          → place_answer f after q ≡ place_answer f held p
      ev_goes_on q s d = goes_on _ next (entries_bundle f.a f.schedule.now here t n from next (sym w)) after q s d.ends

      pub ev_halts : (reason : Refusal) → step_of f after (Err reason) ≡ stepped f.k (ev t (nums32 n (drop from f.schedule.now))) (standing f held p)
          → refused (number_of reason) ≡ place_answer f held p
      ev_halts = halts _ next (entries_bundle f.a f.schedule.now here t n from next (sym w)) after

      pub ev_onward : (q : Place) → SoundAt f after next q → Onward f after p q
      ev_onward q = let b = ev_fact.behind in further_on next after q (omega arith)

  module _ (t page next : ℕ) (w : reading.fetch t page next ≡ read_schedule f.a f.schedule.now here) where
    pub pf_fact : PfAt f.schedule.now here t page next
    pf_fact = schedule_says f.a f.schedule.now here (reading.fetch t page next) (sym w)

    file : entries_from f.a f.schedule.now here ≡ before (pf t page ∷ []) (entries_from f.a f.schedule.now (here + 10))
    file = rw pf_fact.behind at (entries_fetch f.a f.schedule.now here t page next (sym w))

    module _ (after : List ℕ) where
      pub pf_halts : (reason : Refusal) → step_of f after (Err reason) ≡ stepped f.k (pf t page) (standing f held p) → refused (number_of reason) ≡ place_answer f held p
      pf_halts = halts _ (here + 10) file after

      -- the same with the PFs that follow at its request
      module _ (q : Place) (d : SoundAt f after (here + 10) q) where
        pub pf_goes_on : (r : Result Place Refusal) → step_of f after (Ok q) ≡ stepped f.k (pf t page) (standing f held p) → ReadOn f after q r
            → step_answer f after r ≡ place_answer f held p
        pf_goes_on r s m =
            m.answer (stepped_more f.k t page (standing f held p) (standing f after q) s) ∙ goes_on _ (here + 10) file after q s d.ends

        pub pf_onward : (last : Place) → More f.schedule.now q last → Onward f after p last
        pf_onward last m =
            let from = ap (λ (x : Place). x.from) m.same in
            let z = m.further in
            let e = d.ends in
            record { sound = more_sound f after q last d.sound m; further = omega arith }

  pub end_answer : reading.ended ≡ read_schedule f.a f.schedule.now here → ended f.k 0 (standing f held p) ≡ place_answer f held p
  end_answer w = rw (entries_ended f.a f.schedule.now here (sym w)) refl

  pub refused_answer : (n : ℕ) → reading.refused n ≡ read_schedule f.a f.schedule.now here → refused n ≡ place_answer f held p
  refused_answer n w =
      let some = schedule_says f.a f.schedule.now here (reading.refused n) (sym w) in
      rw (entries_refused f.a f.schedule.now here n (sym w), ne_eqb n 0 some)

  pub no_sizes : (k a next : ℕ) → reading.sizes k a next ≡ read_schedule f.a f.schedule.now here → ⊥
  no_sizes k a next w =
      let b = (schedule_says f.a f.schedule.now here (reading.sizes k a next) (sym w)).start in
      let l = g.behind in
      omega arith
