-- The refusals of a request: which one falls, and what is known where none does.
use Prim.Native.Nat.{ℕ, ◌≤◌, ◌<◌}
use native.Mathlib.Omega.{arith}
use mathlib.Core.Bool.{true, false, not}
use mathlib.Core.Path.{◌≡◌, refl, sym, ap, ◌∙◌}
use lib.Dec.{eqb}
use lib.ListN.{length, take}
use borrow.Author.Tests.{eqb-true, eq-eqb, ne_eqb, leb-true, le-leb, not-false}
use Rattle.std.proofs.Common.{Result, Ok, Err}
use Rattle.lists.proofs.Choice.{cases, clash, and_i, and_l, and_r, and_false_l, and_false_r}
use Rattle.paging.specs.Numbers.{number_of, refusal_of}
use Rattle.paging.specs.declared.reasons.Refusal.{Refusal}
use Rattle.paging.specs.declared.reasons.Refusal.TheVariants.{TooLittleRoom, IllFormed, CounterFull}
use Rattle.paging.specs.Refusals.{refuse, sizes_refusal, SizesRight}
use Rattle.paging.specs.Rows.{rows_of}
use Rattle.paging.specs.Table.{revealed}
use Rattle.paging.proofs.Refusals.{zero_pass, Chain, chain_end, chain_refuse, chain_behind, sizes_chain, sizes_rest, sizes_taken, sizes_fall}
use Rattle.layers.specs.Calls as layers_calls
use Rattle.layers.specs.Formed.{layers_well_formed}
use Rattle.layers.specs.Questions.{revealed_answer, revealed_reply, RevealedTold}
use Rattle.layers.proofs.Refusing.{state_ready, state_pass}
use Rattle.marking.specs.Lists.{rising, all_marks}
use Rattle.mark.specs.Calls.{lists_refused, state_refusal}
use Rattle.mark.specs.Formed.{record_formed, buffer_formed, times_formed, mark_well_formed}
use Rattle.mark.specs.Lent.{Lent, rows_in}
use Rattle.mark.specs.declared.MarkRun.{MarkRun}
use Rattle.mark.specs.inner.Judging.{JudgedTo}
use Rattle.paging.proofs.Numbers.{number_above}
use Rattle.mark.proofs.Formed.{Recorded, record_facts, record_well, Roomy, lists_facts, lists_right}

-- what is known where a request is refused with none of 1, 2, 8, 9 and 12
pub record Ready (run : MarkRun) (count : ℕ) (x : Lent) : Type 0 where
  pub sizes : SizesRight run.k run.a
  pub roomy : Roomy run.k run.a x
  pub recorded : Recorded run
  pub count_most : count ≤ run.k
  pub rises : rising (take count x.cache) ≡ true
  pub marks : all_marks (take count x.marks) ≡ true
  pub formed : layers_well_formed run.layers (rows_of x.numbers x.pages) ≡ true
  pub times : times_formed run.t x.numbers x.times ≡ true
  pub more : run.requests ≡ 4294967295 → ⊥

module _ (run : MarkRun) (count : ℕ) (x : Lent) where
  pub state_chain : Chain (state_refusal run count x)
  unfolding state_refusal
  state_chain =
      let short = lists_refused run.k run.a x in
      let ill = not (mark_well_formed run count x) in
      let last = eqb run.requests 4294967295 in
      chain_behind (sizes_refusal run.k run.a) (λ rest. refuse short 8 (refuse ill 9 (refuse last 12 rest))) (sizes_chain run.k run.a)
      (chain_refuse short 8 (λ rest. refuse ill 9 (refuse last 12 rest)) (λ z. omega arith)
      (chain_refuse ill 9 (λ rest. refuse last 12 rest) (λ z. omega arith) (chain_refuse last 12 (λ rest. rest) (λ z. omega arith) chain_end)))

  pub ready : state_refusal run count x 0 ≡ 0 → Ready run count x
  unfolding state_refusal mark_well_formed buffer_formed
  ready z =
      let right = sizes_rest run.k run.a _ z in
      let first = zero_pass (lists_refused run.k run.a x) 8 _ (λ e. omega arith) right.1 in
      let second = zero_pass (not (mark_well_formed run count x)) 9 _ (λ e. omega arith) first.1 in
      let third = zero_pass (eqb run.requests 4294967295) 12 0 (λ e. omega arith) second.1 in
      let well = not-false _ second.0 in
      let rest = and_r _ _ well in
      let buffer = and_l _ _ rest in
      let behind = and_r _ _ rest in
      record {
        sizes = right.0;
        roomy = lists_facts run.k run.a x first.0;
        recorded = record_facts run (and_l _ _ well);
        count_most = leb-true _ _ (and_l _ _ buffer);
        rises = and_l _ _ (and_r _ _ buffer);
        marks = and_r _ _ (and_r _ _ buffer);
        formed = and_l _ _ behind;
        times = and_r _ _ behind;
        more = λ e. clash _ (eq-eqb _ _ e) third.0;
      }

  pub passes : Ready run count x → (rest : ℕ) → state_refusal run count x rest ≡ rest
  unfolding state_refusal mark_well_formed buffer_formed
  passes R rest =
      let well : mark_well_formed run count x ≡ true =
      and_i _ _ (record_well_of R) (and_i _ _ (and_i _ _ (le-leb _ _ R.count_most) (and_i _ _ R.rises R.marks)) (and_i _ _ R.formed R.times)) in
      sizes_taken run.k run.a R.sizes _
      ∙ rw (lists_right run.k run.a x R.roomy, well, ne_eqb _ _ R.more) refl
    where
      record_well_of : Ready run count x → record_formed run ≡ true
      record_well_of R = record_well run R.recorded

-- The question to the layers

module _ (run : MarkRun) (x : Lent) (r : Result ℕ Refusal) (told : RevealedTold run.layers x.pages x.numbers r) where
  layers_number : refusal_of r ≡ layers_calls.state_refusal run.layers x.pages x.numbers 0
  layers_number = number_is r ∙ ap (λ y. y.refusal) told.reply ∙ (unfold revealed_reply in
      cases (eqb (layers_calls.state_refusal run.layers x.pages x.numbers 0) 0)
      (λ z. rw z (sym (eqb-true _ 0 z)))
      (λ z. rw z refl))
    where
      number_is : (r : Result ℕ Refusal) → refusal_of r ≡ (revealed_answer r).refusal
      number_is (Ok shown) = refl
      number_is (Err reason) = refl

  reply_count : refusal_of r ≡ 0 → (revealed_answer r).count ≡ revealed run.layers.s (rows_in x)
  reply_count z = ap (λ y. y.count) told.reply ∙ (unfold revealed_reply in rw (eq-eqb _ 0 (sym layers_number ∙ z)) refl)

  pub layers_shown : (shown : ℕ) → r ≡ Ok shown → shown ≡ revealed run.layers.s (rows_in x)
  layers_shown shown e = sym (ap (λ (y : Result ℕ Refusal). (revealed_answer y).count) e) ∙ reply_count (ap (λ (y : Result ℕ Refusal). refusal_of y) e)

  pub layers_well : refusal_of r ≡ 0 → layers_well_formed run.layers (rows_of x.numbers x.pages) ≡ true
  layers_well z = (state_ready run.layers x.pages x.numbers (sym layers_number ∙ z)).formed

  -- sizes and lengths are judged before: only an ill_formed table is left
  pub layers_ill : SizesRight run.k run.a → Recorded run → length x.numbers ≡ length x.pages → (refusal_of r ≡ 0 → ⊥)
      → layers_well_formed run.layers (rows_of x.numbers x.pages) ≡ false
  layers_ill right R even n =
      cases (layers_well_formed run.layers (rows_of x.numbers x.pages))
      (λ w. let right' : SizesRight run.layers.k run.layers.a = rw (R.one_k, R.one_a) right in
      absurd (n (layers_number ∙ state_pass run.layers x.pages x.numbers (record { sizes = right'; even = sym even; formed = w }) 0)))
      (λ w. w)

-- The refusals in order, as the code judges them

module _ (run : MarkRun) (count : ℕ) (x : Lent) where
  falls : (reason : Refusal) → state_refusal run count x 0 ≡ number_of reason → JudgedTo run count x (Err reason)
  falls reason e = record { refusal_told = sym e; passed = tt }

  pub judged_sizes : (reason : Refusal) → number_of reason ≡ sizes_refusal run.k run.a 0 → JudgedTo run count x (Err reason)
  unfolding state_refusal
  judged_sizes reason e = falls reason (sizes_fall run.k run.a _ (number_of reason) e (number_above reason))

  module _ (right : SizesRight run.k run.a) where
    pub judged_lists : true ≡ lists_refused run.k run.a x → JudgedTo run count x (Err TooLittleRoom)
    unfolding state_refusal
    judged_lists e = falls TooLittleRoom (sizes_taken run.k run.a right _ ∙ rw (← e) refl)

    module _ (roomy : false ≡ lists_refused run.k run.a x) where
      pub room : Roomy run.k run.a x
      room = lists_facts run.k run.a x (sym roomy)

      ill : mark_well_formed run count x ≡ false → JudgedTo run count x (Err IllFormed)
      unfolding state_refusal
      ill w = falls IllFormed (sizes_taken run.k run.a right _ ∙ rw (← roomy, w) refl)

      pub judged_record : false ≡ record_formed run → JudgedTo run count x (Err IllFormed)
      unfolding mark_well_formed
      judged_record e = ill (and_false_l _ _ (sym e))

      pub judged_buffer : false ≡ buffer_formed run.k count x.cache x.marks → JudgedTo run count x (Err IllFormed)
      unfolding mark_well_formed
      judged_buffer e = ill (and_false_r _ _ (and_false_l _ _ (sym e)))

      module _ (record_well : true ≡ record_formed run) (r : Result ℕ Refusal) (told : RevealedTold run.layers x.pages x.numbers r) where
        pub judged_layers : (refusal_of r ≡ 0 → ⊥) → JudgedTo run count x (Err IllFormed)
        unfolding mark_well_formed
        judged_layers n =
            ill (and_false_r _ _ (and_false_r _ _ (and_false_l _ _
            (layers_ill run x r told right (record_facts run (sym record_well)) room.numbers_even n))))

        pub judged_times : false ≡ times_formed run.t x.numbers x.times → JudgedTo run count x (Err IllFormed)
        unfolding mark_well_formed
        judged_times e = ill (and_false_r _ _ (and_false_r _ _ (and_false_r _ _ (sym e))))

        module _ (buffer-well : true ≡ buffer_formed run.k count x.cache x.marks) (shown : ℕ) (is : r ≡ Ok shown)
            (times_well : true ≡ times_formed run.t x.numbers x.times) where
          well : mark_well_formed run count x ≡ true
          unfolding mark_well_formed
          well = and_i _ _ (sym record_well) (and_i _ _ (sym buffer-well) (and_i _ _ (layers_well run x r told (ap refusal_of is)) (sym times_well)))

          pub judged_last : run.requests ≡ 4294967295 → JudgedTo run count x (Err CounterFull)
          unfolding state_refusal
          judged_last e = falls CounterFull (sizes_taken run.k run.a right _ ∙ rw (← roomy, well, eq-eqb _ _ e) refl)

          pub judged_none : run.requests < 4294967295 → JudgedTo run count x (Ok shown)
          unfolding state_refusal
          judged_none m =
              let n : run.requests ≡ 4294967295 → ⊥ = λ e. omega arith in
              record {
                refusal_told = sym (sizes_taken run.k run.a right _ ∙ rw (← roomy, well, ne_eqb _ _ n) refl);
                passed = record { revealed_told = layers_shown run x r told shown is; more = m };
              }
