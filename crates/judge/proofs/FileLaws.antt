-- Laws behind the start of both files: the trace's count, and the schedule's first place.
use Rattle.std.specs.Prelude.{Ok, Err}
use Prim.Native.Nat.{ℕ, ◌+◌, ◌*◌, ◌≤◌}
use native.Mathlib.Omega.{arith}
use mathlib.Core.List.{List, []}
use mathlib.Core.Path.{◌≡◌, refl, sym, ap, ◌∙◌}
use lib.ListN.{length}
use borrow.Author.Tests.{ne_eqb, eq-eqb}
use Rattle.lists.specs.Choice.{◌and◌}
use Rattle.paging.specs.Numbers.{number_of}
use Rattle.paging.specs.Refusals.{largest_k, longest_trace}
use Rattle.paging.specs.declared.reasons.Refusal.{Refusal}
use Rattle.reading.specs.Files.{File, requests_from}
use Rattle.reading.specs.Reading.{read_schedule}
use Rattle.reading.specs.Reading as reading
use Rattle.reading.proofs.Facts.{schedule_says, KaAt}
use Rattle.cursor.specs.Cursor.{requests_left}
use Rattle.cursor.proofs.Laws.{rest, at_a_record}
use Rattle.traces.specs.Calls.{count_of, trace_count_answer}
use Rattle.traces.specs.Traces.{TraceFile, trace_file}
use Rattle.traces.specs.declared.TraceCount.{TraceCount}
use Rattle.paging.proofs.Numbers.{number_above}
use Rattle.traces.proofs.CallLaws.{CountedWhole, count_refused_lem, count_whole}
use Rattle.judging.specs.Answer.{Answer, refused}
use Rattle.judging.specs.Files.{behind_trace, schedule_judged, judged}
use Rattle.judge.specs.declared.place.Files.{Files}
use Rattle.judge.specs.declared.place.Place.{Place}
use Rattle.judge.specs.inner.Places.{Sound}
use Rattle.judge.specs.inner.Verdicts.{place_answer}

-- The schedule's KA

module _ (f : Files) (k a next : ℕ) (own : reading.sizes k a next ≡ read_schedule f.a f.schedule.now 0) where
  pub other_k : (k ≡ f.k → ⊥) → refused 6 ≡ schedule_judged f.k f.a (requests_from f.trace.now 6).held f.schedule.now
  unfolding ◌and◌
  other_k h = rw (← own, ne_eqb k f.k h)

  pub other_a : k ≡ f.k → (a ≡ f.a → ⊥) → refused 6 ≡ schedule_judged f.k f.a (requests_from f.trace.now 6).held f.schedule.now
  unfolding ◌and◌
  other_a h l = rw (← own, eq-eqb k f.k h, ne_eqb a f.a l)

  abbrev first : Place
  first = record { t = 0; rest = rest 0 0 6; from = next; fetches = 0; bundles = 0 }

  start : requests_left f.trace.now (rest 0 0 6) ≡ requests_from f.trace.now 6
  start = at_a_record f.trace.now (rest 0 0 6) (omega arith)

  pub first_sound : (requests_from f.trace.now 6).damage ≡ 0 → f.requests ≡ length (requests_from f.trace.now 6).held → f.k ≤ largest_k → Sound f [] first
  first_sound d s z =
      let g : KaAt f.schedule.now 0 k a next = schedule_says f.a f.schedule.now 0 (reading.sizes k a next) (sym own) in
      let b = g.behind in
      let i = g.inside in
      let size = ap (λ (x : File ℕ). length x.held) start in
      record {
        size = z;
        room = omega arith;
        inside = omega arith;
        behind = omega arith;
        started = omega arith;
        undamaged = ap (λ (x : File ℕ). x.damage) start ∙ d;
        counted = omega arith;
      }

  pub first_answer : (x : Answer) → k ≡ f.k → a ≡ f.a → x ≡ place_answer f [] first → x ≡ schedule_judged f.k f.a (requests_from f.trace.now 6).held f.schedule.now
  unfolding ◌and◌
  first_answer x ek ea w =
      let same : next + 10 * 0 ≡ next = omega arith in
      w ∙ rw (← own, eq-eqb k f.k ek, eq-eqb a f.a ea, same, start)

-- The trace: it is refused, or what its count tells is what stands in the file

pub barred_trace : (trace schedule : List ℕ) (reason : Refusal) → trace_count_answer (Err reason) ≡ count_of (trace_file longest_trace trace)
    → refused (number_of reason) ≡ judged trace schedule
unfolding judged
barred_trace trace schedule reason e = rw (count_refused_lem longest_trace trace (trace_count_answer (Err reason)) e (number_above reason))

module _ (trace schedule : List ℕ) (told : TraceCount) (e : trace_count_answer (Ok told) ≡ count_of (trace_file longest_trace trace)) where
  counted : CountedWhole longest_trace trace (trace_count_answer (Ok told))
  counted = count_whole longest_trace trace (trace_count_answer (Ok told)) e refl

  held : (requests_from trace 6).held ≡ counted.pages
  held = ap (λ (g : File ℕ). g.held) counted.trace.read

  pub whole_trace : ((requests_from trace 6).damage ≡ 0) × (told.requests ≡ length (requests_from trace 6).held) × (told.k ≤ 256)
  whole_trace = (ap (λ (g : File ℕ). g.damage) counted.trace.read, rw held counted.all, counted.trace.right.k_high)

  pub trace_judged : (x : Answer) → x ≡ schedule_judged told.k told.a (requests_from trace 6).held schedule → x ≡ judged trace schedule
  unfolding judged
  trace_judged x y =
      y ∙ ap (λ (pages : List ℕ). schedule_judged told.k told.a pages schedule) held
      ∙ sym (ap (λ (z : TraceFile). behind_trace z (λ k a pages. schedule_judged k a pages schedule)) counted.is)
