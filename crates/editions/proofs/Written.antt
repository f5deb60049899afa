-- Bytes written one behind the other: what is still to be written, put behind what is written, makes the whole. Then each loop that writes: RQs of one page, RQs of
-- all requests, a record for each run.
use Prim.Native.Nat.{ℕ, zero, suc, ◌+◌, ◌*◌, ◌-◌, ◌≤◌, ◌<◌}
use native.Mathlib.Omega.{arith}
use mathlib.Core.List.{List, [], ◌∷◌, ◌++◌, append_assoc}
use mathlib.Core.Path.{◌≡◌, refl, sym, ap, ◌∙◌}
use lib.ListN.{length, replicate, length-append, length-replicate}
use borrow.Author.Tests.{ne_eqb}
use Rattle.wire.specs.Numbers.{placed}
use Rattle.wire.proofs.Numbers.{length_placed, placed_none, placed_join}
use Rattle.records.specs.Bytes.{rq_bytes, rr_bytes, trace_entry_bytes, joined}
use Rattle.reading.specs.Files.{File, requests_from}
use Rattle.cursor.specs.Cursor.{Begun, requests_left}
use Rattle.cursor.specs.declared.Rest.{Rest}
use Rattle.cursor.proofs.Laws.{rest, at_a_record}
use Rattle.editions.specs.Editions.{run_record}
use Rattle.editions.specs.inner.Turning.{old_behind, new_behind, Passing, RunTaken, Writing}
use Rattle.editions.proofs.Lengths.{old_size, no_run_left}
use Rattle.editions.proofs.RunRecords.{one_record}

-- ---- one behind the other

pub writing_first : (out : List ℕ) (from : ℕ) (all : List ℕ) → from + length all ≤ length out → Writing out out from from all all
writing_first out from all h = record { room = h; same = refl; sum = refl; whole = refl }

module _ (out₀ out : List ℕ) (from at : ℕ) (all left : List ℕ) (w : Writing out₀ out from at all left) where
  module _ (b behind : List ℕ) (e : left ≡ b ++ behind) where
    pub next_fits : at + length b ≤ length out
    next_fits = let room = w.room in let l = ap length e ∙ length-append b behind in omega arith

    pub writing_next : (out' : List ℕ) (at' : ℕ) → out' ≡ placed out at b → at' ≡ at + length b → Writing out₀ out' from at' all behind
    writing_next out' at' p q =
        let fits = next_fits in
        let l = ap length e ∙ length-append b behind in
        let kept = ap length p ∙ length_placed out at b fits in
        let room = w.room in
        let sum = w.sum in
        record {
          room = omega arith;
          same = kept ∙ w.same;
          sum = omega arith;
          whole = rw (p, q) (placed_join out at b behind fits ∙ ap (placed out at) (sym e) ∙ w.whole);
        }

  pub writing_done : left ≡ [] → (at ≡ from + length all) × (out ≡ placed out₀ from all)
  writing_done e =
      let sum = w.sum in
      let none = ap length e in
      (omega arith, placed_none out at ∙ ap (placed out at) (sym e) ∙ w.whole)

-- ---- RQs of one page

same_size : (n page : ℕ) → length (joined rq_bytes (replicate n page)) ≡ 6 * n
same_size zero page = refl
same_size (suc n) page = let again = same_size n page in omega arith

one_of_same : (n page : ℕ) → 0 < n → joined rq_bytes (replicate n page) ≡ rq_bytes page ++ joined rq_bytes (replicate (n - 1) page)
one_of_same zero page h = absurd (omega arith)
one_of_same (suc n) page h = let e : suc n - 1 ≡ n = omega arith in rw e

abbrev pub WritingSame : (page times : ℕ) → (out₀ out : List ℕ) → (from at left : ℕ) → Type 0
WritingSame page times out₀ out from at left = Writing out₀ out from at (joined rq_bytes (replicate times page)) (joined rq_bytes (replicate left page))

pub same_first : (page times : ℕ) (out : List ℕ) (from : ℕ) → from + 6 * times ≤ length out → WritingSame page times out out from from times
same_first page times out from h = let l = same_size times page in writing_first out from (joined rq_bytes (replicate times page)) (omega arith)

module _ (page times : ℕ) (out₀ out : List ℕ) (from at left : ℕ) (w : WritingSame page times out₀ out from at left) where
  pub same_next : 0 < left → (out' : List ℕ) → out' ≡ placed out at (rq_bytes page) → WritingSame page times out₀ out' from (at + 6) (left - 1)
  same_next h out' p = writing_next out₀ out from at _ _ w (rq_bytes page) _ (one_of_same left page h) out' (at + 6) p refl

  pub same_done : left ≤ 0 → (at ≡ from + 6 * times) × (out ≡ placed out₀ from (joined rq_bytes (replicate times page)))
  same_done h =
      let none : left ≡ 0 = omega arith in
      let done = writing_done out₀ out from at _ _ w (ap (λ (n : ℕ). joined rq_bytes (replicate n page)) none) in
      let l = same_size times page in
      let at-is = done.0 in
      (omega arith, done.1)

-- ---- RQs of all requests

same_in_front : (times page : ℕ) (rest : List ℕ) → old_behind (replicate times page ++ rest) ≡ joined rq_bytes (replicate times page) ++ old_behind rest
same_in_front zero page rest = refl
same_in_front (suc times) page rest =
    ap (λ (l : List ℕ). rq_bytes page ++ l) (same_in_front times page rest)
    ∙ sym (append_assoc (rq_bytes page) (joined rq_bytes (replicate times page)) (old_behind rest))

pub record WritingSingles (file : List ℕ) (n : ℕ) (out₀ out : List ℕ) (from at i : ℕ) : Type 0 where
  pub started : 0 < from
  pub size : i + length (requests_from file from).held ≡ n
  pub writing : Writing out₀ out 6 at (old_behind (requests_from file 6).held) (old_behind (requests_from file from).held)

pub singles_first : (file : List ℕ) (n : ℕ) (out : List ℕ) → n ≡ length (requests_from file 6).held → 6 + 6 * n ≤ length out
    → WritingSingles file n out out 6 6 0
singles_first file n out e h =
    let l = old_size (requests_from file 6).held in
    record { started = omega arith; size = omega arith; writing = writing_first out 6 (old_behind (requests_from file 6).held) (omega arith) }

empty : (l : List ℕ) → length l ≡ 0 → l ≡ []
empty [] h = refl
empty (x ∷ l) h = absurd (omega arith)

held_is : (file : List ℕ) (left : Rest) → (requests_left file left).held ≡ replicate left.times left.page ++ (requests_from file left.from).held
unfolding requests_left
held_is file left = refl

module _ (file : List ℕ) (n : ℕ) (out₀ out : List ℕ) (from at i : ℕ) (w : WritingSingles file n out₀ out from at i) where
  module _ (found : Rest) (f : Begun found × (requests_from file from ≡ requests_left file found)) where
    held : (requests_from file from).held ≡ replicate found.times found.page ++ (requests_from file found.from).held
    held = ap (λ (x : File ℕ). x.held) f.1 ∙ held_is file found

    to_come : old_behind (requests_from file from).held ≡ joined rq_bytes (replicate found.times found.page) ++ old_behind (requests_from file found.from).held
    to_come = ap old_behind held ∙ same_in_front found.times found.page (requests_from file found.from).held

    pub singles_fit : at + 6 * found.times ≤ length out
    singles_fit =
        let fits = next_fits out₀ out 6 at _ _ w.writing (joined rq_bytes (replicate found.times found.page)) _ to_come in
        let l = same_size found.times found.page in
        omega arith

    passed : i + found.times + length (requests_from file found.from).held ≡ n
    passed =
        let size = w.size in
        let l : length (requests_from file from).held ≡ found.times + length (requests_from file found.from).held
        = ap length held ∙ simp (length-append, length-replicate) in
        omega arith

    pub singles_next : (at' : ℕ) (out' : List ℕ) → at' ≡ at + 6 * found.times → out' ≡ placed out at (joined rq_bytes (replicate found.times found.page))
        → WritingSingles file n out₀ out' found.from at' (i + found.times)
    singles_next at' out' q p =
        let l = same_size found.times found.page in
        record {
          started = f.0.started;
          size = passed;
          writing = writing_next out₀ out 6 at _ _ w.writing (joined rq_bytes (replicate found.times found.page)) _ to_come out' at' p (omega arith);
        }

-- ---- a run's record

-- the record of a run, by how many requests it stands for
pub single_record : (page times : ℕ) → times ≡ 1 → trace_entry_bytes (run_record page times) ≡ rq_bytes page
single_record page times one = rw one

pub run_of_more : (page times : ℕ) → (times ≡ 1 → ⊥) → trace_entry_bytes (run_record page times) ≡ rr_bytes page times
run_of_more page times more = rw (ne_eqb times 1 more)

pub single_record_length : (page times : ℕ) → times ≡ 1 → length (trace_entry_bytes (run_record page times)) ≡ 6
single_record_length page times one = ap length (single_record page times one)

pub run_of_more_length : (page times : ℕ) → (times ≡ 1 → ⊥) → length (trace_entry_bytes (run_record page times)) ≡ 8
run_of_more_length page times more = ap length (run_of_more page times more)

pub ruleset run_rules = (single_record, run_of_more, single_record_length, run_of_more_length)

-- ---- a record for each run

pub passing_first : (file : List ℕ) (n : ℕ) → n ≡ length (requests_from file 6).held → Passing file n 0 (rest 0 0 6)
passing_first file n e =
    let l = ap (λ (x : File ℕ). length x.held) (at_a_record file (rest 0 0 6) (omega arith)) in
    record { started = omega arith; small = omega arith; size = omega arith }

start_is : (file : List ℕ) → new_behind (requests_left file (rest 0 0 6)).held ≡ new_behind (requests_from file 6).held
start_is file = ap (λ (x : File ℕ). new_behind x.held) (at_a_record file (rest 0 0 6) (omega arith))

module _ (file : List ℕ) (n i : ℕ) (left : Rest) (p : Passing file n i left) where
  pub passing_done : n ≤ i → new_behind (requests_left file left).held ≡ new_behind []
  passing_done h = let size = p.size in ap new_behind (empty (requests_left file left).held (omega arith))

  module _ (page times : ℕ) (behind : Rest) (t : RunTaken file left page times behind) where
    taken_held : (requests_left file left).held ≡ replicate times page ++ (requests_left file behind).held
    taken_held = ap (λ (x : File ℕ). x.held) t.taken

    pub run_to_come : new_behind (requests_left file left).held ≡ trace_entry_bytes (run_record page times) ++ new_behind (requests_left file behind).held
    run_to_come =
        ap new_behind taken_held ∙ ap (joined trace_entry_bytes) (one_record page times (requests_left file behind).held t.some t.few t.ends)

    run_passed : i + times + length (requests_left file behind).held ≡ n
    run_passed =
        let size = p.size in
        let l : length (requests_left file left).held ≡ times + length (requests_left file behind).held = ap length taken_held ∙ simp (length-append, length-replicate) in
        omega arith

    pub passing_next : Passing file n (i + times) behind
    passing_next = record { started = t.started; small = t.small; size = run_passed }

pub record WritingRuns (file : List ℕ) (n : ℕ) (out₀ out : List ℕ) (left : Rest) (at i : ℕ) : Type 0 where
  pub passing : Passing file n i left
  pub writing : Writing out₀ out 6 at (new_behind (requests_from file 6).held) (new_behind (requests_left file left).held)

pub runs_first : (file : List ℕ) (n : ℕ) (out : List ℕ) → n ≡ length (requests_from file 6).held → 6 + length (new_behind (requests_from file 6).held) ≤ length out
    → WritingRuns file n out out (rest 0 0 6) 6 0
runs_first file n out e h =
    record { passing = passing_first file n e; writing = rw (start_is file) (writing_first out 6 (new_behind (requests_from file 6).held) h) }

module _ (file : List ℕ) (n : ℕ) (out₀ out : List ℕ) (left : Rest) (at i : ℕ) (w : WritingRuns file n out₀ out left at i) where
  module _ (page times : ℕ) (behind : Rest) (t : RunTaken file left page times behind) where
    pub runs_fit : at + length (trace_entry_bytes (run_record page times)) ≤ length out
    runs_fit = next_fits out₀ out 6 at _ _ w.writing (trace_entry_bytes (run_record page times)) _ (run_to_come file n i left w.passing page times behind t)

    pub runs_next : (at' : ℕ) (out' : List ℕ) → at' ≡ at + length (trace_entry_bytes (run_record page times)) → out' ≡ placed out at (trace_entry_bytes (run_record page times))
        → WritingRuns file n out₀ out' behind at' (i + times)
    runs_next at' out' q p =
        record {
          passing = passing_next file n i left w.passing page times behind t;
          writing = writing_next out₀ out 6 at _ _ w.writing (trace_entry_bytes (run_record page times)) _
              (run_to_come file n i left w.passing page times behind t) out' at' p q;
        }

  pub runs_done : n ≤ i → out ≡ placed out₀ 6 (new_behind (requests_from file 6).held)
  runs_done h = (writing_done out₀ out 6 at _ _ w.writing (passing_done file n i left w.passing h ∙ no_run_left)).1
