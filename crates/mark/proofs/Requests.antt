-- A request from its judging to its answer.
use Prim.Native.Nat.{ℕ, ◌≤◌, ◌<◌}
use native.Mathlib.Omega.{arith}
use mathlib.Core.Bool.{Bool}
use mathlib.Core.Path.{◌≡◌, refl, sym, ap, ◌∙◌}
use lib.Dec.{ltb}
use lib.ListN.{length}
use borrow.Author.Tests.{eq-eqb, ne_eqb}
use Rattle.std.proofs.Common.{Option, Some, None, is_none, Ok, Err}
use Rattle.lists.specs.Places.{place}
use Rattle.paging.specs.Numbers.{number_of, kind_of_outcome, rule_of}
use Rattle.paging.specs.Refusals.{refuse}
use Rattle.paging.specs.Rows.{rows_of, table_of}
use Rattle.paging.specs.Table.{rule_in, revealed}
use Rattle.paging.specs.declared.reasons.Refusal.{Refusal}
use Rattle.paging.specs.declared.reasons.Refusal.TheVariants.{TableFull}
use Rattle.paging.proofs.Refusals.{chain_fall}
use Rattle.paging.proofs.Rows.{rows_length}
use Rattle.paging.proofs.Forming.{FormedRows}
use Rattle.layers.proofs.Forming.{formed_rows}
use Rattle.layers.proofs.Refusing.{counters_fit}
use Rattle.layers.proofs.WellFormed.{facts, well_table, ordered_shape}
use Rattle.marking.specs.Marking.{mark_kind}
use Rattle.marking.specs.Rdm.{joins_next, priority_next}
use Rattle.leaving.proofs.Cached.{length_cached}
use Rattle.marked.proofs.Kept.{served_most}
use Rattle.mark.specs.Calls.{holding, held, state_refusal, request_refusal, reply_served, reply_of, mark_reply_answer, lent_after, Answered}
use Rattle.mark.specs.Lent.{Lent, rows_in}
use Rattle.mark.specs.declared.MarkReply.{MarkReply}
use Rattle.mark.specs.declared.MarkRun.{MarkRun}
use Rattle.mark.specs.declared.serving.Point.{Point}
use Rattle.mark.specs.declared.serving.Stepped.{Stepped}
use Rattle.mark.specs.inner.Stepping.{StepReady, point_after, SteppedBy, SteppedTo, AnswerReady, answered_by}
use Rattle.paging.proofs.Numbers.{number_above}
use Rattle.mark.proofs.Refusals.{Ready, ready, passes, state_chain}
use Rattle.mark.proofs.Tables.{first_unused, used_fit, times_low, times_blank}

-- What the step asks

module _ (run : MarkRun) (count : ℕ) (x : Lent) (R : Ready run count x) where
  even : length x.pages ≡ length x.numbers
  even = sym R.roomy.numbers_even

  pub rows_formed : FormedRows run.k run.a run.layers.s (rows_in x)
  rows_formed =
      let table = rows_of x.numbers x.pages in
      let F : FormedRows run.layers.k run.layers.a run.layers.s (rows_in x) = formed_rows run.layers table (well_table run.layers table R.formed) in
      rw (R.recorded.one_k, R.recorded.one_a) at F

  pub table_shape : rows_of x.numbers x.pages ≡ table_of (length x.pages) (rows_in x)
  table_shape =
      let F = facts run.layers (rows_of x.numbers x.pages) (well_table run.layers (rows_of x.numbers x.pages) R.formed) in
      ordered_shape (rows_of x.numbers x.pages) F.in_order
      ∙ ap (λ (n : ℕ). table_of n (rows_in x)) (rows_length x.numbers x.pages even)

  pub step_ready : (used shown : ℕ) → used ≡ place 0 x.numbers → shown ≡ revealed run.layers.s (rows_in x) → run.requests < 4294967295
      → StepReady run.k run.a (record { table = record { s = run.layers.s; t = run.t; revealed = shown; used = used }; count = count }) x
  step_ready used shown at_first told more =
      let counted : used ≡ length (rows_in x) = at_first ∙ first_unused x.numbers x.pages even table_shape rows_formed.above in
      record {
        buffer = record {
          a_low = R.sizes.a_low;
          a_high = R.sizes.a_high;
          k_high = R.sizes.k_high;
          count_most = R.count_most;
          cache_room = R.roomy.cache_room;
          marks_room = omega (arith, R.roomy.cache_room, R.roomy.marks_even);
          priorities_room = omega (arith, R.roomy.cache_room, R.roomy.priorities_even);
          evicted_room = R.roomy.evicted_room;
          rises = R.rises;
        };
        table = record {
          sound = record { sizes = R.sizes; s_high = rows_formed.most };
          formed = rows_formed;
          shape = table_shape;
          counted = counted;
          fits = rw counted (used_fit x.numbers x.pages even table_shape rows_formed.above);
          even = even;
          beside = R.roomy.times_even;
          blank = rw counted (times_blank x.numbers x.pages even table_shape rows_formed.above run.t x.times R.roomy.times_even R.times);
          times_low = times_low run.t x.numbers x.times (R.roomy.times_even ∙ even) R.times;
          shown = told;
          further = omega (arith, R.recorded.time_low);
        };
      }

  pub answer_ready : run.requests < 4294967295 → AnswerReady run
  answer_ready more =
      record {
        more = more;
        loads_low = R.recorded.loads_low;
        evictions_low = R.recorded.evictions_low;
        layers = counters_fit run.layers x.pages x.numbers
            (record { sizes = rw (R.recorded.one_k, R.recorded.one_a) R.sizes; even = even; formed = R.formed }) (omega (arith, R.recorded.one_count));
      }

-- What the call answers and leaves

module _ (run : MarkRun) (count : ℕ) (x : Lent) (p : ℕ) where
  pub refused_answer : (reason : Refusal) → request_refusal run count x p ≡ number_of reason → Answered run count x p (Err reason) x
  unfolding reply_of lent_after
  refused_answer reason e = (rw (e, ne_eqb (number_of reason) 0 (number_above reason)) refl, rw (e, ne_eqb (number_of reason) 0 (number_above reason)) refl)

  pub early_refusal_lem : (number : ℕ) → number ≡ state_refusal run count x 0 → (number ≡ 0 → ⊥) → request_refusal run count x p ≡ number
  unfolding request_refusal
  early_refusal_lem number e n = chain_fall (state_refusal run count x) (state_chain run count x) _ number e n

  module _ (at : Point) (left : Lent) (same_s : at.table.s ≡ run.layers.s) (same-t : at.table.t ≡ run.t) (same_count : at.count ≡ count)
      (R : Ready run count x) where
    full_is : (r : Option Stepped) → SteppedTo run.k run.a p at x left r → request_refusal run count x p ≡ refuse (is_none r) 10 0
    unfolding request_refusal
    full_is r told =
        let same : is_none r ≡ ltb (length x.pages) (length (held run count x p).clock.layers.rows) = rw same_s at told.full_told in
        passes run count x R _ ∙ ap (λ (b : Bool). refuse b 10 0) (sym same)

    pub full_answer : SteppedTo run.k run.a p at x left None → Answered run count x p (Err TableFull) left
    full_answer told = let t = refused_answer TableFull (full_is None told) in (t.0, told.lists_told ∙ t.1)

    pub served_answer : (r : Stepped) → SteppedTo run.k run.a p at x left (Some r) → (reply : MarkReply) → reply ≡ answered_by run r
        → Answered run count x p (Ok reply) left
    unfolding reply_of lent_after
    served_answer r told reply e =
        let z : request_refusal run count x p ≡ 0 = full_is (Some r) told in
        let done : SteppedBy run.k run.a p at x r = told.done_told in
        let after : r.after
        ≡ point_after run.k run.a p (record { table = record { s = run.layers.s; t = run.t; revealed = at.table.revealed; used = at.table.used }; count = count }) x =
        done.point_told ∙ rw (same_s, same-t, same_count) refl in
        let outcome : kind_of_outcome r.outcome ≡ mark_kind run.k p (holding run count x).cached = done.outcome_told ∙ rw same_count refl in
        let rule : rule_of r.rule ≡ rule_in run.layers.k run.layers.s p (rows_in x) = done.rule_told ∙ rw (same_s, R.recorded.one_k) refl in
        let layers_k : run.layers.k ≡ run.k = R.recorded.one_k in
        let layers_a : run.layers.a ≡ run.a = R.recorded.one_a in
        let same : mark_reply_answer (Ok (answered_by run r)) ≡ reply_served run count x p = rw (after, outcome, rule, layers_k, layers_a) refl in
        (ap (λ y. mark_reply_answer (Ok y)) e ∙ same ∙ rw (eq-eqb _ 0 z) refl, told.lists_told ∙ rw (eq-eqb _ 0 z, same_s, same-t, same_count) refl)

-- As the code finds it

pub answer_refused : (run : MarkRun) (count : ℕ) (x : Lent) (p : ℕ) (reason : Refusal) → number_of reason ≡ state_refusal run count x 0
    → Answered run count x p (Err reason) x
answer_refused run count x p reason told =
    refused_answer run count x p reason (early_refusal_lem run count x p (number_of reason) told (number_above reason))

module _ (run : MarkRun) (count : ℕ) (x : Lent) (p : ℕ) (told : 0 ≡ state_refusal run count x 0) where
  pub taken : Ready run count x
  taken = ready run count x (sym told)

  module _ (used shown : ℕ) (left : Lent) where
    pub answer_full : SteppedTo run.k run.a p (record { table = record { s = run.layers.s; t = run.t; revealed = shown; used = used }; count = count }) x left None
        → Answered run count x p (Err TableFull) left
    answer_full step = full_answer run count x p _ left refl refl refl taken step

    module _ (r : Stepped)
        (step : SteppedTo run.k run.a p (record { table = record { s = run.layers.s; t = run.t; revealed = shown; used = used }; count = count }) x left (Some r)) where
      done : SteppedBy run.k run.a p (record { table = record { s = run.layers.s; t = run.t; revealed = shown; used = used }; count = count }) x r
      done = step.done_told

      pub count_small : r.after.count ≤ 256
      count_small =
          let R = taken in
          let most = served_most run.k run.a (joins_next run.k p (holding run count x).clock) p (priority_next p (holding run count x).clock)
          (holding run count x).cached R.sizes.a_low R.sizes.a_high
          (omega (
            arith,
            R.count_most,
            length_cached count x.cache x.marks x.priorities
                (record {
                  cache_room = omega (arith, R.roomy.cache_room, R.count_most);
                  marks_room = omega (arith, R.roomy.cache_room, R.roomy.marks_even, R.count_most);
                  priorities_room = omega (arith, R.roomy.cache_room, R.roomy.priorities_even, R.count_most);
                }),
          )) in
          omega (arith, most, R.sizes.k_high, ap (λ (q : Point). q.count) done.point_told)

      pub answer_served : (reply : MarkReply) → reply ≡ answered_by run r → Answered run count x p (Ok reply) left
      answer_served reply e = served_answer run count x p _ left refl refl refl taken r step reply e
