-- The calls on a whole file: the KA first, then the requests; and a list is filled only where nothing is refused.
use Prim.Native.Nat.{ℕ, ◌≤◌}
use mathlib.Core.List.{List, ◌++◌}
use mathlib.Core.Path.{◌≡◌, refl, sym, ap, ◌∙◌}
use lib.ListN.{length, drop}
use borrow.Author.Tests.{ne_eqb}
use Rattle.records.specs.Marks.{mark_at}
use Rattle.reading.specs.Files.{File, requests_from}
use Rattle.reading.specs.Reading.{refused, sizes, ka_read}
use Rattle.reading.proofs.Reading.{trace_first}
use Rattle.traces.specs.Calls.{TraceCountAnswer, count_of, pages_after}
use Rattle.traces.specs.Traces.{TraceFile, whole, damaged, trace_file}
use Rattle.traces.specs.inner.Counting.{CountedAnswer, counted_in}
use Rattle.traces.proofs.Whole.{WholeTrace, file_says}

-- ---- counting

module _ (limit : ℕ) (file : List ℕ) where
  pub starts_damaged : (number : ℕ) → refused number ≡ ka_read (mark_at file) file → damaged number ≡ trace_file limit file
  unfolding trace_file
  starts_damaged number e = rw (← trace_first file 0 refl e)

  module _ (k a : ℕ) (e : sizes k a 6 ≡ ka_read (mark_at file) file) (r : CountedAnswer) (c : r ≡ counted_in limit (requests_from file 6)) where
    number : r.refusal ≡ (counted_in limit (requests_from file 6)).refusal
    number = ap (λ (x : CountedAnswer). x.refusal) c

    pub starts_barred : (r.refusal ≡ 0 → ⊥) → damaged r.refusal ≡ trace_file limit file
    unfolding trace_file
    starts_barred h = rw (← trace_first file 0 refl e) (rw (← number, ne_eqb r.refusal 0 h))

    pub starts_whole : r.refusal ≡ 0 → record { refusal = 0; k = k; a = a; requests = r.requests } ≡ count_of (trace_file limit file)
    unfolding trace_file
    starts_whole h =
        let size : r.requests ≡ length (requests_from file 6).held
        = ap (λ (x : CountedAnswer). x.requests) c ∙ rw (← number, h) in
        rw (← trace_first file 0 refl e) (rw (← number, h) (ap (λ (n : ℕ). record { refusal = 0; k = k; a = a; requests = n }) size))

-- ---- what a count says of its file: that it is damaged with this number, or whole with these sizes and as many requests

pub record CountedWhole (limit : ℕ) (file : List ℕ) (told : TraceCountAnswer) : Type 0 where
  pub pages : List ℕ
  pub is : trace_file limit file ≡ whole told.k told.a pages
  pub all : told.requests ≡ length pages
  pub trace : WholeTrace limit file told.k told.a pages

module _ (limit : ℕ) (file : List ℕ) (told : TraceCountAnswer) (e : told ≡ count_of (trace_file limit file)) where
  damaged_as : (x : TraceFile) → told ≡ count_of x → (told.refusal ≡ 0 → ⊥) → x ≡ damaged told.refusal
  damaged_as (whole k a pages) q h = absurd (h (ap (λ (r : TraceCountAnswer). r.refusal) q))
  damaged_as (damaged n) q h = ap (λ (r : TraceCountAnswer). damaged r.refusal) (sym q)

  pub count_refused_lem : (told.refusal ≡ 0 → ⊥) → trace_file limit file ≡ damaged told.refusal
  count_refused_lem h = damaged_as (trace_file limit file) e h

  whole_as : (x : TraceFile) → trace_file limit file ≡ x → told ≡ count_of x → told.refusal ≡ 0 → CountedWhole limit file told
  whole_as (whole k a pages) w q h =
      let k_is : told.k ≡ k = ap (λ (r : TraceCountAnswer). r.k) q in
      let a_is : told.a ≡ a = ap (λ (r : TraceCountAnswer). r.a) q in
      let is : trace_file limit file ≡ whole told.k told.a pages = rw (k_is, a_is) w in
      record { pages = pages; is = is; all = ap (λ (r : TraceCountAnswer). r.requests) q; trace = file_says limit file (whole told.k told.a pages) is }
  whole_as (damaged number) w q h = absurd ((file_says limit file (damaged number) w).0 (sym (ap (λ (r : TraceCountAnswer). r.refusal) q) ∙ h))

  pub count_whole : told.refusal ≡ 0 → CountedWhole limit file told
  count_whole h = whole_as (trace_file limit file) refl e h

-- ---- filling

-- the list with the requests of a whole file in front
in_front_lem : (lent : List ℕ) (x : TraceFile) (k a n : ℕ) (pages held : List ℕ) → x ≡ whole k a pages → held ≡ pages → n ≡ length pages
    → held ++ drop n lent ≡ pages_after x lent
in_front_lem lent x k a n pages held is same all = rw (is, same, all)

module _ (limit : ℕ) (file lent : List ℕ) (told : TraceCountAnswer) (e : told ≡ count_of (trace_file limit file)) where
  pub refused_unchanged : (told.refusal ≡ 0 → ⊥) → lent ≡ pages_after (trace_file limit file) lent
  refused_unchanged h = rw (count_refused_lem limit file told e h)

  module _ (h : told.refusal ≡ 0) where
    counted : CountedWhole limit file told
    counted = count_whole limit file told e h

    held : (requests_from file 6).held ≡ counted.pages
    held = ap (λ (y : File ℕ). y.held) counted.trace.read

    pub all_there : (told.requests ≡ length (requests_from file 6).held) × (told.requests ≤ limit)
    all_there = let few = counted.trace.few in (rw held counted.all, rw counted.all few)

    -- once the requests stand in the list it is as promised
    pub list_filled : (now : List ℕ) → now ≡ (requests_from file 6).held ++ drop told.requests lent → now ≡ pages_after (trace_file limit file) lent
    list_filled now q = q ∙ in_front_lem lent (trace_file limit file) told.k told.a told.requests counted.pages _ counted.is held counted.all

pub ruleset fill_rules = (refused_unchanged, list_filled)
