-- The new edition measured in one pass: what is measured and what is to come make up the whole, whether the file is good or not.
use Prim.Native.Nat.{ℕ, zero, suc, ◌+◌, ◌*◌, ◌-◌, ◌≤◌, ◌<◌}
use native.Mathlib.Omega.{arith}
use mathlib.Core.List.{List, [], ◌++◌, append_assoc}
use Rattle.std.specs.Prelude.{Result, Ok, Err}
use mathlib.Core.Path.{◌≡◌, refl, sym, ap, ◌∙◌}
use lib.ListN.{length, replicate}
use borrow.Author.Tests.{ne_eqb}
use Rattle.paging.specs.Numbers.{number_of}
use Rattle.paging.specs.declared.reasons.Refusal.{Refusal}
use Rattle.reading.specs.Answers.{trace_answer}
use Rattle.reading.specs.Files.{File, requests_from}
use Rattle.reading.specs.Reading.{read_trace}
use Rattle.reading.specs.Reading as reading
use Rattle.reading.specs.declared.TraceRecord.{TraceRecord}
use Rattle.reading.specs.declared.TraceRecord.TheVariants as traced
use Rattle.reading.proofs.Facts.{trace_says}
use Rattle.reading.proofs.Walk.{requests_ended, requests_request}
use Rattle.traces.specs.inner.Counting.{counted_in}
use Rattle.traces.proofs.CountLaws.{Counting, request_fact, too_many, counting_next, counted_all, counted_damage, counted_says, no_sizes}
use Rattle.editions.specs.Editions.{longest_rr}
use Rattle.editions.specs.declared.measure.LastRun.{LastRun}
use Rattle.editions.specs.inner.Measuring.{Added, last_length, measured_in}
use Rattle.editions.specs.inner.Turning.{new_behind}
use Rattle.editions.proofs.Lengths.{cost, cost_is, no_run_left, in_front_lem}
use Rattle.editions.proofs.RunRecords.{replicate_add, replicate_parts, ends_at_other, ends_full}

abbrev pub last_run : (page times size : ℕ) → LastRun
last_run page times size = record { page = page; times = times; size = size }

-- ---- the record of the last run

pub last_none : (times : ℕ) → times ≡ 0 → 0 ≡ last_length times
last_none times e = rw e

pub last_some : (times : ℕ) → (times ≡ 0 → ⊥) → last_length times ≡ cost times
last_some times h = rw (ne_eqb times 0 h)

last_low : (times : ℕ) → last_length times ≤ 8
last_low zero = omega arith
last_low (suc n) =
    let e = last_some (suc n) (λ z. omega arith) in
    let c = (cost_is (suc n)).high in
    omega arith

pub last_small : (times n : ℕ) → n ≡ last_length times → n ≤ 8
last_small times n e = let l = last_low times in omega arith

-- the last run is all that is left
alone : (page times : ℕ) → times ≤ longest_rr → length (new_behind (replicate times page ++ [])) ≡ last_length times
alone page zero few = ap length no_run_left
alone page (suc n) few =
    let l = in_front_lem page (suc n) [] (omega arith) few tt in
    let c = last_some (suc n) (λ z. omega arith) in
    let none = ap length no_run_left in
    omega arith

-- ---- one record more

module _ (last : LastRun) (page times : ℕ) (some : 0 < times) (few : times ≤ longest_rr) (last-few : last.times ≤ longest_rr) where
  -- of another page: the last run ends
  run_before : (n : ℕ) → last.times ≡ n → (page ≡ last.page → ⊥) → (rest : List ℕ)
      → length (new_behind (replicate n last.page ++ (replicate times page ++ rest))) ≡ last_length n + length (new_behind (replicate times page ++ rest))
  run_before zero e differs rest = omega arith
  run_before (suc n) e differs rest =
      let l = in_front_lem last.page (suc n) (replicate times page ++ rest) (omega arith) (omega arith)
      (ends_at_other last.page (suc n) page times rest some differs) in
      let c = last_some (suc n) (λ z. omega arith) in
      omega arith

  pub added_other : (page ≡ last.page → ⊥) → (more : ℕ) → more ≡ last_length last.times → Added last page times (last_run page times (last.size + more))
  added_other differs more is =
      record {
        few = few;
        grows = let l = last_small last.times more is in omega arith;
        same = λ rest. let l = run_before last.times refl differs rest in omega arith;
      }

  -- of the same page
  module _ (same : page ≡ last.page) where
    joined_runs : (rest : List ℕ) → replicate last.times last.page ++ (replicate times page ++ rest) ≡ replicate (last.times + times) page ++ rest
    joined_runs rest =
        ap (λ (p : ℕ). replicate last.times p ++ (replicate times page ++ rest)) (sym same)
        ∙ sym (append_assoc (replicate last.times page) (replicate times page) rest)
        ∙ ap (λ (l : List ℕ). l ++ rest) (sym (replicate_add last.times times page))

    pub added_same : last.times + times ≤ longest_rr → Added last page times (last_run page (last.times + times) last.size)
    added_same h =
        record {
          few = h;
          grows = omega arith;
          same = λ rest. ap (λ (l : List ℕ). last.size + length (new_behind l)) (joined_runs rest);
        }

    pub added_full : longest_rr < last.times + times → Added last page times (last_run page (last.times + times - longest_rr) (last.size + 8))
    added_full h =
        let left = last.times + times - longest_rr in
        record {
          few = omega arith;
          grows = omega arith;
          same = λ rest. let parts : replicate last.times last.page ++ (replicate times page ++ rest) ≡ replicate longest_rr page ++ (replicate left page ++ rest)
              = joined_runs rest ∙ ap (λ (l : List ℕ). l ++ rest) (replicate_parts longest_rr (last.times + times) page (omega arith))
              ∙ append_assoc (replicate longest_rr page) (replicate left page) rest in
              let l = ap (λ (x : List ℕ). length (new_behind x)) parts in
              let f = in_front_lem page longest_rr (replicate left page ++ rest) (omega arith) (omega arith) (ends_full page (replicate left page ++ rest)) in
              omega arith;
        }

-- ---- all of them

pub record MeasuringAt (file : List ℕ) (most at n : ℕ) (last : LastRun) : Type 0 where
  pub counting : Counting file most at n
  pub few : last.times ≤ longest_rr
  pub small : last.size ≤ 6 + 8 * n
  pub sum : last.size + length (new_behind (replicate last.times last.page ++ (requests_from file at).held)) ≡ 6 + length (new_behind (requests_from file 6).held)

measured_none : (most n size : ℕ) (file : File ℕ) → record { refusal = 0; requests = n } ≡ counted_in most file → size ≡ 6 + length (new_behind file.held)
    → record { refusal = 0; requests = n; length = size } ≡ measured_in most file
measured_none most n size file c e =
    let said = counted_says most file 0 n c in
    let no = said.0 in
    let all = said.1 in
    rw (← all, ← no) (ap (λ (m : ℕ). record { refusal = 0; requests = n; length = m }) e)

measured_no : (most number : ℕ) (file : File ℕ) → record { refusal = number; requests = 0 } ≡ counted_in most file → (number ≡ 0 → ⊥)
    → record { refusal = number; requests = 0; length = 0 } ≡ measured_in most file
measured_no most number file c some =
    let no = (counted_says most file number 0 c).0 in
    rw (← no, ne_eqb number 0 some)

module _ (file : List ℕ) (most at n : ℕ) (last : LastRun) (m : MeasuringAt file most at n last) where
  pub size_fits : most ≤ 65536 → last.size ≤ 1000000
  size_fits limit =
      let small = m.small in
      let few = m.counting.few in
      omega arith

  module _ (r : Result TraceRecord Refusal) (e : trace_answer r ≡ read_trace file at) where
    module _ (page times next : ℕ) (q : r ≡ Ok (traced.Request page times next)) where
      pub measured_too_many : most - n < times → record { refusal = 3; requests = 0; length = 0 } ≡ measured_in most (requests_from file 6)
      measured_too_many h = measured_no most 3 (requests_from file 6) (too_many file most at n m.counting r e page times next q h) (λ z. omega arith)

      pub measuring_next : times ≤ most - n → (after : LastRun) → Added last page times after → MeasuringAt file most next (n + times) after
      measuring_next h after added =
          let some = (request_fact file most at n m.counting r e page times next q).some in
          let run = requests_request file at page times next (sym e ∙ ap trace_answer q) in
          let held = ap (λ (f : File ℕ). length (new_behind (replicate last.times last.page ++ f.held))) run in
          let same = added.same (requests_from file next).held in
          let sum = m.sum in
          let small = m.small in
          let grows = added.grows in
          record { counting = counting_next file most at n m.counting r e page times next q h; few = added.few; small = omega arith; sum = omega arith }

    pub measured_damage : (x : Refusal) → r ≡ Err x → record { refusal = number_of x; requests = 0; length = 0 } ≡ measured_in most (requests_from file 6)
    measured_damage x q =
        measured_no most (number_of x) (requests_from file 6) (counted_damage file most at n m.counting r e x q)
        (trace_says file at (reading.refused (number_of x)) (sym e ∙ ap trace_answer q))

    -- what is no request is the end
    pub measured_all : (found : TraceRecord) → r ≡ Ok found → ((page times next : ℕ) → found ≡ traced.Request page times next → ⊥)
        → (more : ℕ) → more ≡ last_length last.times → record { refusal = 0; requests = n; length = last.size + more } ≡ measured_in most (requests_from file 6)
    measured_all (traced.Sizes k a next) q other more is = absurd (no_sizes file most at n m.counting r e k a next q)
    measured_all (traced.Request page times next) q other more is = absurd (other page times next refl)
    measured_all traced.End q other more is =
        let none = ap (λ (f : File ℕ). length (new_behind (replicate last.times last.page ++ f.held))) (requests_ended file at (sym e ∙ ap trace_answer q)) in
        let end = alone last.page last.times m.few in
        let sum = m.sum in
        measured_none most n (last.size + more) (requests_from file 6) (counted_all file most at n m.counting r e q) (omega arith)
