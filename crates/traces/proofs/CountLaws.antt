-- The loop that counts the requests behind a KA: so many are counted, and the others stand from the offset on.
use Prim.Native.Nat.{ℕ, ◌+◌, ◌-◌, ◌≤◌, ◌<◌}
use native.Mathlib.Nat.{zero-add}
use native.Mathlib.Omega.{arith}
use mathlib.Core.List.{List, []}
use Rattle.std.specs.Prelude.{Result, Ok, Err}
use mathlib.Core.Path.{◌≡◌, refl, sym, ap, ◌∙◌}
use lib.Dec.{eqb}
use lib.ListN.{length, replicate, length-replicate, length-append}
use borrow.Author.Tests.{le-ltb, ne_eqb}
use Rattle.lists.specs.Choice.{pick}
use Rattle.paging.specs.Numbers.{number_of}
use Rattle.paging.specs.declared.reasons.Refusal.{Refusal}
use Rattle.reading.specs.Answers.{trace_answer}
use Rattle.reading.specs.Files.{File, requests_from, before}
use Rattle.reading.specs.Reading.{read_trace}
use Rattle.reading.specs.Reading as reading
use Rattle.reading.specs.declared.TraceRecord.{TraceRecord}
use Rattle.reading.specs.declared.TraceRecord.TheVariants as traced
use Rattle.reading.proofs.Facts.{trace_says, RequestAt}
use Rattle.reading.proofs.Walk.{requests_refused, requests_ended, requests_request}
use Rattle.traces.specs.Traces.{requests_refusal}
use Rattle.traces.specs.inner.Counting.{CountedAnswer, counted_in}
use Rattle.traces.proofs.Whole.{past_the_limit}

pub record Counting (file : List ℕ) (most at n : ℕ) : Type 0 where
  pub started : 0 < at
  pub few : n ≤ most
  pub size : length (requests_from file 6).held ≡ n + length (requests_from file at).held
  pub damage : (requests_from file 6).damage ≡ (requests_from file at).damage

pub counting_first : (file : List ℕ) (most : ℕ) → Counting file most 6 0
counting_first file most = record { started = omega arith; few = omega arith; size = sym (zero-add _); damage = refl }

module _ (file : List ℕ) (most at n : ℕ) (c : Counting file most at n) (r : Result TraceRecord Refusal) (e : trace_answer r ≡ read_trace file at) where
  module _ (page times next : ℕ) (q : r ≡ Ok (traced.Request page times next)) where
    answers : read_trace file at ≡ reading.request page times next
    answers = sym e ∙ ap trace_answer q

    pub request_fact : RequestAt file at page times next
    request_fact = trace_says file at (reading.request page times next) answers

    run : requests_from file at ≡ before (replicate times page) (requests_from file next)
    run = requests_request file at page times next answers

    run_size_lem : length (requests_from file at).held ≡ times + length (requests_from file next).held
    run_size_lem = ap (λ (f : File ℕ). length f.held) run ∙ simp (length-append, length-replicate)

    pub too_many : most - n < times → record { refusal = 3; requests = 0 } ≡ counted_in most (requests_from file 6)
    too_many h =
        let s = c.size in
        let l = run_size_lem in
        let f = c.few in
        rw (past_the_limit most (requests_from file 6) (omega arith))

    pub counting_next : times ≤ most - n → Counting file most next (n + times)
    counting_next h =
        let s = c.size in
        let f = c.few in
        let l = run_size_lem in
        let o = request_fact.onward in
        record { started = omega arith; few = omega arith; size = omega arith; damage = c.damage ∙ ap (λ (f : File ℕ). f.damage) run }

  -- the reader has nothing more: all requests are counted
  all_counted : (x : ℕ) → requests_from file at ≡ record { held = []; damage = x } → (length (requests_from file 6).held ≡ n) × ((requests_from file 6).damage ≡ x)
  all_counted x w =
      let s = c.size in
      let l = ap (λ (f : File ℕ). length f.held) w in
      (omega arith, c.damage ∙ ap (λ (f : File ℕ). f.damage) w)

  pub counted_all : r ≡ Ok traced.End → record { refusal = 0; requests = n } ≡ counted_in most (requests_from file 6)
  counted_all q =
      let w = all_counted 0 (requests_ended file at (sym e ∙ ap trace_answer q)) in
      rw (w.0, le-ltb most n c.few, w.1)

  pub counted_damage : (x : Refusal) → r ≡ Err x → record { refusal = number_of x; requests = 0 } ≡ counted_in most (requests_from file 6)
  counted_damage x q =
      let answer = sym e ∙ ap trace_answer q in
      let w = all_counted (number_of x) (requests_refused file at (number_of x) answer) in
      let some = trace_says file at (reading.refused (number_of x)) answer in
      rw (w.0, le-ltb most n c.few, w.1, ne_eqb (number_of x) 0 some)

  pub no_sizes : (k a next : ℕ) → r ≡ Ok (traced.Sizes k a next) → ⊥
  no_sizes k a next q =
      let b = (trace_says file at (reading.sizes k a next) (sym e ∙ ap trace_answer q)).start in
      let z = c.started in
      omega arith

  -- what is no request is the end: behind the start no sizes stand
  pub counted_else : (found : TraceRecord) → r ≡ Ok found → ((page times next : ℕ) → found ≡ traced.Request page times next → ⊥)
      → record { refusal = 0; requests = n } ≡ counted_in most (requests_from file 6)
  counted_else (traced.Sizes k a next) q other = absurd (no_sizes k a next q)
  counted_else (traced.Request page times next) q other = absurd (other page times next refl)
  counted_else traced.End q other = counted_all q

-- what a count says, field by field
pub counted_says : (most : ℕ) (file : File ℕ) (number n : ℕ) → record { refusal = number; requests = n } ≡ counted_in most file
    → (number ≡ requests_refusal most file) × (n ≡ pick (eqb (requests_refusal most file) 0) (length file.held) 0)
counted_says most file number n c = (ap (λ (x : CountedAnswer). x.refusal) c, ap (λ (x : CountedAnswer). x.requests) c)
