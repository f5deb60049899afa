-- A run taken from what is left of a file: records of one page are added to it as long as requests are left, until another page or the longest RR ends it.
use Prim.Native.Nat.{ℕ, ◌+◌, ◌-◌, ◌≤◌, ◌<◌}
use native.Mathlib.Omega.{arith}
use mathlib.Core.List.{List, [], ◌∷◌, ◌++◌, append_assoc}
use mathlib.Core.Path.{◌≡◌, refl, sym, ap, ◌∙◌}
use lib.ListN.{length, replicate, length-append, length-replicate}
use Rattle.reading.specs.Files.{File, before, requests_from}
use Rattle.cursor.specs.Cursor.{Begun, requests_left}
use Rattle.cursor.specs.declared.Rest.{Rest}
use Rattle.cursor.proofs.Laws.{rest}
use Rattle.editions.specs.Editions.{longest_rr}
use Rattle.editions.specs.inner.Turning.{Ends, Passing, RunTaken}
use Rattle.editions.proofs.RunRecords.{replicate_add, replicate_parts, ends_at_other, ends_full}

-- ---- the run that is begun

pub record InRun (file : List ℕ) (left : Rest) (n page times from : ℕ) : Type 0 where
  pub begun : Begun (rest page times from)
  pub same : requests_left file left ≡ requests_left file (rest page times from)
  pub size : length (requests_left file (rest page times from)).held ≡ n

module _ (file : List ℕ) (left : Rest) (n : ℕ) (p : Passing file n 0 left) (first : Rest) (e : requests_left file left ≡ requests_left file first) where
  pub run_first : Begun first → InRun file first n first.page first.times first.from
  run_first b =
      let size = p.size in
      let kept = ap (λ (x : File ℕ). length x.held) e in
      record { begun = b; same = refl; size = omega arith }

  -- what is taken from it is taken from what was left before the record was read
  pub taken_before : (page times : ℕ) (behind : Rest) → RunTaken file first page times behind → RunTaken file left page times behind
  taken_before page times behind t =
      record { some = t.some; few = t.few; started = t.started; small = t.small; taken = e ∙ t.taken; ends = t.ends }

-- ---- and how it goes on

left_size : (file : List ℕ) (page times from : ℕ) → length (requests_left file (rest page times from)).held ≡ times + length (requests_from file from).held
unfolding requests_left
left_size file page times from = simp (length-append, length-replicate)

opened : (file : List ℕ) (page times from : ℕ) → requests_left file (rest page times from) ≡ before (replicate times page) (requests_from file from)
unfolding requests_left
opened file page times from = refl

-- the rest of a run in two parts
in_parts : (file : List ℕ) (page times from part : ℕ) → part ≤ times
    → requests_left file (rest page times from) ≡ before (replicate part page) (requests_left file (rest page (times - part) from))
unfolding requests_left
in_parts file page times from part h =
    ap (λ (l : List ℕ). before l (requests_from file from)) (replicate_parts part times page h)
    ∙ ap (λ (l : List ℕ). record { held = l; damage = (requests_from file from).damage })
    (append_assoc (replicate part page) (replicate (times - part) page) (requests_from file from).held)

-- the record behind has the same page
grown : (file : List ℕ) (page times from : ℕ) (more : Rest) → requests_from file from ≡ requests_left file more → more.page ≡ page
    → requests_left file (rest page times from) ≡ requests_left file (rest page (times + more.times) more.from)
unfolding requests_left
grown file page times from more e same =
    let tail = requests_from file more.from in
    ap (before (replicate times page)) (e ∙ ap (λ (p : ℕ). before (replicate more.times p) tail) same)
    ∙ ap (λ (l : List ℕ). record { held = l; damage = tail.damage }) (sym (append_assoc (replicate times page) (replicate more.times page) tail.held)
    ∙ ap (λ (l : List ℕ). l ++ tail.held) (sym (replicate_add times more.times page)))

-- the next request is of the page of the run that is begun
other_next : (file : List ℕ) (page times : ℕ) (more : Rest) → 0 < more.times → (more.page ≡ page → ⊥) → Ends page times (requests_left file more).held
unfolding requests_left
other_next file page times more some differs = ends_at_other page times more.page more.times (requests_from file more.from).held some differs

none_left : (page times : ℕ) (l : List ℕ) → length l ≡ 0 → Ends page times l
none_left page times [] h = tt
none_left page times (x ∷ l) h = absurd (omega arith)

module _ (file : List ℕ) (left : Rest) (n page times from : ℕ) (r : InRun file left n page times from) where
  pub more_there : times < n → 0 < length (requests_from file from).held
  more_there h =
      let size = r.size in
      let parts = left_size file page times from in
      omega arith

  -- all requests are in the run
  pub run_last : n ≤ times → RunTaken file left page times (rest page 0 from)
  run_last h =
      let size = r.size in
      let parts = left_size file page times from in
      let none = left_size file page 0 from in
      let whole : times - times ≡ 0 = omega arith in
      let split : requests_left file (rest page times from) ≡ before (replicate times page) (requests_left file (rest page 0 from))
      = in_parts file page times from times (omega arith) ∙ ap (λ (m : ℕ). before (replicate times page) (requests_left file (rest page m from))) whole in
      record {
        some = r.begun.some;
        few = r.begun.few;
        started = r.begun.started;
        small = omega arith;
        taken = r.same ∙ split;
        ends = none_left page times (requests_left file (rest page 0 from)).held (omega arith);
      }

  module _ (more : Rest) (found : Begun more × (requests_from file from ≡ requests_left file more)) where
    pub run_other : (more.page ≡ page → ⊥) → RunTaken file left page times more
    run_other differs =
        record {
          some = r.begun.some;
          few = r.begun.few;
          started = found.0.started;
          small = found.0.few;
          taken = r.same ∙ opened file page times from ∙ ap (before (replicate times page)) found.1;
          ends = other_next file page times more found.0.some differs;
        }

    module _ (same : more.page ≡ page) where
      pub run_full : longest_rr < times + more.times → RunTaken file left page longest_rr (rest page (times + more.times - longest_rr) more.from)
      run_full h =
          let few = r.begun.few in
          let few' = found.0.few in
          record {
            some = omega arith;
            few = omega arith;
            started = found.0.started;
            small = omega arith;
            taken = r.same ∙ grown file page times from more found.1 same
                ∙ in_parts file page (times + more.times) more.from longest_rr (omega arith);
            ends = ends_full page (requests_left file (rest page (times + more.times - longest_rr) more.from)).held;
          }

      pub run_grows : times + more.times ≤ longest_rr → InRun file left n page (times + more.times) more.from
      run_grows h =
          let on = grown file page times from more found.1 same in
          let some = r.begun.some in
          record {
            begun = record { some = omega arith; few = h; started = found.0.started };
            same = r.same ∙ on;
            size = sym (ap (λ (x : File ℕ). length x.held) on) ∙ r.size;
          }
