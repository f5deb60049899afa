-- A trace file read whole is refused with a number, or it is a KA with right sizes and requests without damage, not more than the limit. Whatever holds of
-- both holds of every file.
use Prim.Native.Nat.{ℕ, ◌≤◌, ◌<◌}
use native.Mathlib.Omega.{arith}
use mathlib.Core.Bool.{Bool}
use mathlib.Core.List.{List}
use mathlib.Core.Logic.{inl}
use mathlib.Core.Path.{◌≡◌, refl, sym, ap, subst, ◌∙◌}
use lib.Dec.{eqb, ltb}
use lib.ListN.{length}
use borrow.Author.Tests.{eqb-true, eqb-false, lt-ltb, le-ltb}
use Rattle.lists.specs.Choice.{pick}
use Rattle.lists.proofs.Choice.{by_test, tests}
use Rattle.paging.specs.Refusals.{refuse, SizesRight}
use Rattle.paging.proofs.Refusals.{sizes_right, zero_pass}
use Rattle.records.specs.Bytes.{TraceFileOf}
use Rattle.reading.specs.Files.{File, requests_from}
use Rattle.reading.specs.Reading.{Answer, refused, ended, sizes, request, bundle, fetch, read_trace}
use Rattle.reading.proofs.Facts.{TraceFacts, trace_facts, KaAt}
use Rattle.reading.proofs.Numbers.{Among, TraceNumber, trace_low, requests_low}
use Rattle.reading.proofs.RoundTrip.{trace_reads_back}
use Rattle.reading.proofs.Walk.{requests_sizes}
use Rattle.traces.specs.Traces.{TraceFile, whole, damaged, requests_refusal, with_requests, from_start, trace_file}

-- what is true of a file that is read whole
pub record WholeTrace (limit : ℕ) (s : List ℕ) (k a : ℕ) (pages : List ℕ) : Type 0 where
  pub right : SizesRight k a
  pub starts : read_trace s 0 ≡ sizes k a 6
  pub read : requests_from s 6 ≡ record { held = pages; damage = 0 }
  pub few : length pages ≤ limit

-- the record that passes the limit is 3, whatever follows it
pub past_the_limit : (limit : ℕ) (file : File ℕ) → limit < length file.held → requests_refusal limit file ≡ 3
past_the_limit limit file h = rw (lt-ltb limit (length file.held) h) refl

refused_number : (b : Bool) (n : ℕ) → TraceNumber n → TraceNumber (refuse b 3 n)
refused_number b n h = by_test (λ t. TraceNumber (pick t 3 n)) b (λ e. inl (omega arith)) (λ e. h)

module _ (limit : ℕ) (s : List ℕ) (P : TraceFile → Type 0) (no : (number : ℕ) → (number ≡ 0 → ⊥) → TraceNumber number → P (damaged number))
    (yes : (k a : ℕ) (pages : List ℕ) → WholeTrace limit s k a pages → P (whole k a pages)) where
  behind_ka_lem : (k a next : ℕ) → KaAt s 0 k a next → read_trace s 0 ≡ sizes k a next → P (with_requests limit k a (requests_from s next))
  behind_ka_lem k a next f e =
      let file = requests_from s next in
      let at6 : next ≡ 6 = f.behind in
      let i : 6 ≤ length s = f.inside in
      by_test (λ t. P (pick t (whole k a file.held) (damaged (requests_refusal limit file)))) (eqb (requests_refusal limit file) 0)
      (λ z. let p = zero_pass (ltb limit (length file.held)) 3 file.damage (λ w. omega arith) (eqb-true _ 0 z) in
      let b = p.0 in
      yes k a file.held
      (record {
        right = sizes_right k a f.right;
        starts = e ∙ ap (sizes k a) at6;
        read = ap (requests_from s) (sym at6) ∙ ap (λ (d : ℕ). record { held = file.held; damage = d }) p.1;
        few = omega tests;
      }))
      (λ z. no (requests_refusal limit file) (eqb-false _ 0 z) (refused_number (ltb limit (length file.held)) file.damage (requests_low s next (omega arith))))

  by_start : (x : Answer) → TraceFacts s 0 x → Among TraceNumber x → read_trace s 0 ≡ x → P (from_start limit s x)
  by_start (refused number) f l e = no number f l
  by_start ended f l e = no 5 (λ w. omega arith) (inl (omega arith))
  by_start (sizes k a next) f l e = behind_ka_lem k a next f e
  by_start (request page times next) f l e = no 4 (λ w. omega arith) (inl (omega arith))
  by_start (bundle t n from next) f l e = no 4 (λ w. omega arith) (inl (omega arith))
  by_start (fetch t page next) f l e = no 4 (λ w. omega arith) (inl (omega arith))

  pub each_file : P (trace_file limit s)
  unfolding trace_file
  each_file = by_start (read_trace s 0) (trace_facts s 0) (trace_low s 0 (omega arith)) refl

-- what the answer says of the file
abbrev FileSays : (limit : ℕ) → List ℕ → TraceFile → Type 0
FileSays limit s (whole k a pages) = WholeTrace limit s k a pages
FileSays limit s (damaged number) = (number ≡ 0 → ⊥) × TraceNumber number

pub file_says : (limit : ℕ) (s : List ℕ) (x : TraceFile) → trace_file limit s ≡ x → FileSays limit s x
file_says limit s x e = subst (FileSays limit s) e (each_file limit s (FileSays limit s) (λ number z l. (z, l)) (λ k a pages w. w))

-- and the other way round: such a file is read whole
pub whole_is_read : (limit : ℕ) (s : List ℕ) (k a : ℕ) (pages : List ℕ) → WholeTrace limit s k a pages → trace_file limit s ≡ whole k a pages
unfolding trace_file
whole_is_read limit s k a pages w =
    rw (w.starts, w.read, le-ltb limit (length pages) w.few)

-- every file of a trace is read whole as that trace
pub file_of_a_trace : (limit : ℕ) (k a : ℕ) (pages file : List ℕ) → SizesRight k a → TraceFileOf k a pages file → length pages ≤ limit
    → trace_file limit file ≡ whole k a pages
file_of_a_trace limit k a pages file right f few =
    let r = trace_reads_back k a pages file right f in
    whole_is_read limit file k a pages (record { right = right; starts = r.0; read = sym (requests_sizes file 0 k a 6 r.0) ∙ r.1; few = few })

-- all files of a trace are read the same, with any limit
pub files_of_one_trace : (limit : ℕ) (k a : ℕ) (pages file other : List ℕ) → SizesRight k a → TraceFileOf k a pages file → TraceFileOf k a pages other
    → trace_file limit file ≡ trace_file limit other
unfolding trace_file
files_of_one_trace limit k a pages file other right f g =
    let r = trace_reads_back k a pages file right f in
    let q = trace_reads_back k a pages other right g in
    rw (r.0, q.0)
    (ap (with_requests limit k a) (sym (requests_sizes file 0 k a 6 r.0) ∙ r.1 ∙ sym (sym (requests_sizes other 0 k a 6 q.0) ∙ q.1)))
