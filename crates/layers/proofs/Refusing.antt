-- The refusals of the calls: which one falls, and what is known where none does.
use Prim.Native.Nat.{ℕ, ◌<◌}
use native.Mathlib.Omega.{arith}
use mathlib.Core.Bool.{true, false, not}
use mathlib.Core.List.{List}
use mathlib.Core.Path.{◌≡◌, refl, sym, ap, ◌∙◌}
use Rattle.std.specs.Prelude.{Option, Some, None, Result, Ok, Err, is_err}
use Rattle.std.specs.Result.{result_ok, MatchResult}
use lib.Dec.{eqb}
use lib.ListN.{length}
use borrow.Author.Tests.{eq-eqb, ne_eqb, eqb-true, leb-true, not-false}
use Rattle.paging.specs.Numbers.{rule_of}
use Rattle.lists.specs.Sorting.{Row}
use Rattle.paging.specs.Layers.{top_after}
use Rattle.paging.specs.Refusals.{sizes_refusal, SizesRight, refuse}
use Rattle.paging.specs.Rows.{rows_of, numbers_of, pages_of, used_rows, table_of}
use Rattle.paging.specs.Table.{rule_in}
use Rattle.paging.specs.declared.applied.RuleApplied.{RuleApplied}
use Rattle.paging.proofs.Refusals.{zero_pass, Chain, chain_end, chain_refuse, chain_behind, chain_fall, sizes_chain, sizes_pass, sizes_fall, sizes_rest, sizes_taken}
use Rattle.paging.proofs.Rows.{numbers_back, pages_back}
use Rattle.table.specs.Serving.{Sound, SteppedTo}
use Rattle.table.specs.declared.Stepped.{Stepped}
use Rattle.table.proofs.Serving.{used_rows_lem, used_rule}
use Rattle.layers.specs.Calls.{state_refusal, request_refusal, reply_by, request_reply, pages_next, numbers_next, refused, rows_next}
use Rattle.layers.specs.Formed.{layers_well_formed}
use Rattle.layers.specs.declared.LayersRun.{LayersRun}
use Rattle.layers.specs.inner.Counting.{CountersFit}
use Rattle.layers.proofs.WellFormed.{facts, well_table, well_counts}

-- A reason has a number, and a call that answers none has a result

pub none_left : {A : Type 0} (o : Option A) → ((x : A) → o ≡ Some x → ⊥) → o ≡ None
none_left None h = refl
none_left (Some x) h = absurd (h x refl)

pub ok_none : {T E : Type 0} (r : Result T E) → result_ok r ≡ None → is_err r ≡ true
ok_none (Ok x) e = cc
ok_none (Err y) e = refl

pub ok_some : {T E : Type 0} (r : Result T E) (x : T) → result_ok r ≡ Some x → r ≡ Ok x
ok_some (Ok y) x e = cc
ok_some (Err y) x e = cc

-- the same after `map_err`
pub err_mapped : {T E D : Type 0} (r : Result T E) (y : D) (Q : E → Type 0) → MatchResult r (λ x. Err y ≡ Ok x) Q → (is_err r ≡ true) × (e : E) × Q e
err_mapped (Ok x) y Q h = cc
err_mapped (Err e) y Q h = (refl, e, h)

pub ok_mapped : {T E D : Type 0} (r : Result T E) (s : Result T D) (y : T) (Q : E → Type 0) → s ≡ Ok y → ((e : E) → Q e → ⊥) → MatchResult r (λ x. s ≡ Ok x) Q → r ≡ Ok y
ok_mapped (Ok x) s y Q t n h = cc
ok_mapped (Err e) s y Q t n h = absurd (n e h)

-- The state

-- what is known where no call on the state is refused with 1, 2, 8 or 9
pub record StateReady (run : LayersRun) (pages numbers : List ℕ) : Type 0 where
  pub sizes : SizesRight run.k run.a
  pub even : length pages ≡ length numbers
  pub formed : layers_well_formed run (rows_of numbers pages) ≡ true

module _ (run : LayersRun) (pages numbers : List ℕ) where
  pub state_sizes : (rest number : ℕ) → number ≡ sizes_refusal run.k run.a 0 → (number ≡ 0 → ⊥) → number ≡ state_refusal run pages numbers rest
  unfolding state_refusal
  state_sizes rest number e n = sym (sizes_fall run.k run.a _ number e n)

  pub state_uneven : (rest : ℕ) → 0 ≡ sizes_refusal run.k run.a 0 → (length pages ≡ length numbers → ⊥) → 8 ≡ state_refusal run pages numbers rest
  unfolding state_refusal
  state_uneven rest z u = sym (sizes_pass run.k run.a _ (sym z) ∙ rw (ne_eqb (length pages) (length numbers) u))

  pub state_ill : (rest : ℕ) → 0 ≡ sizes_refusal run.k run.a 0 → length pages ≡ length numbers → false ≡ layers_well_formed run (rows_of numbers pages)
      → 9 ≡ state_refusal run pages numbers rest
  unfolding state_refusal
  state_ill rest z u w = sym (sizes_pass run.k run.a _ (sym z) ∙ rw (eq-eqb (length pages) (length numbers) u, ← w))

  pub state_none : (rest : ℕ) → 0 ≡ sizes_refusal run.k run.a 0 → length pages ≡ length numbers → true ≡ layers_well_formed run (rows_of numbers pages)
      → rest ≡ state_refusal run pages numbers rest
  unfolding state_refusal
  state_none rest z u w = sym (sizes_pass run.k run.a _ (sym z) ∙ rw (eq-eqb (length pages) (length numbers) u, ← w))

  pub state_pass : StateReady run pages numbers → (rest : ℕ) → state_refusal run pages numbers rest ≡ rest
  unfolding state_refusal
  state_pass r rest = sizes_taken run.k run.a r.sizes _ ∙ rw (eq-eqb (length pages) (length numbers) r.even, r.formed)

  pub state_ready : state_refusal run pages numbers 0 ≡ 0 → StateReady run pages numbers
  unfolding state_refusal
  state_ready z =
      let right = sizes_rest run.k run.a _ z in
      let first = zero_pass (not (eqb (length pages) (length numbers))) 8 _ (λ e. omega arith) right.1 in
      let second = zero_pass (not (layers_well_formed run (rows_of numbers pages))) 9 _ (λ e. omega arith) first.1 in
      record {
        sizes = right.0;
        even = eqb-true (length pages) (length numbers) (not-false _ first.0);
        formed = not-false _ second.0;
      }

  state_chain : Chain (state_refusal run pages numbers)
  unfolding state_refusal
  state_chain =
      let uneven = not (eqb (length pages) (length numbers)) in
      let ill = not (layers_well_formed run (rows_of numbers pages)) in
      chain_behind (sizes_refusal run.k run.a) (λ rest. refuse uneven 8 (refuse ill 9 rest)) (sizes_chain run.k run.a)
      (chain_refuse uneven 8 (λ rest. refuse ill 9 rest) (λ z. omega arith) (chain_refuse ill 9 (λ rest. rest) (λ z. omega arith) chain_end))

  pub state_fall : (number : ℕ) → number ≡ state_refusal run pages numbers 0 → (number ≡ 0 → ⊥) → (rest : ℕ) → state_refusal run pages numbers rest ≡ number
  state_fall number e n rest = chain_fall (state_refusal run pages numbers) state_chain rest number e n

pub ruleset state_rules = (state_sizes, state_uneven, state_ill, state_none)

-- A request

pub sound : (run : LayersRun) (pages numbers : List ℕ) → StateReady run pages numbers → Sound run.k run.a run.s
sound run pages numbers r =
    record {
      sizes = r.sizes;
      s_high = leb-true run.s run.k (facts run (rows_of numbers pages) (well_table run (rows_of numbers pages) r.formed)).s_low;
    }

-- no counter of a state that is not refused is above its requests, so each can rise where these can
pub counters_fit : (run : LayersRun) (pages numbers : List ℕ) → StateReady run pages numbers → run.requests < 4294967295 → CountersFit run
counters_fit run pages numbers r more =
    let C = well_counts run (rows_of numbers pages) r.formed in
    let sum = C.sum in
    let bundles = C.bundles in
    record { more = more; evictions_low = omega arith; appends_low = omega arith; joins_low = omega arith; lifts_low = omega arith }

module _ (run : LayersRun) (pages numbers : List ℕ) (p : ℕ) where
  pub request_refused : (number : ℕ) → request_refusal run pages numbers p ≡ number → (number ≡ 0 → ⊥)
      → (refused number ≡ request_reply run pages numbers p) × (pages ≡ pages_next run pages numbers p) × (numbers ≡ numbers_next run pages numbers p)
  unfolding request_reply pages_next numbers_next
  request_refused number e n = (rw (e, ne_eqb number 0 n), rw (e, ne_eqb number 0 n), rw (e, ne_eqb number 0 n))

  -- refused by the state
  pub request_state : (number : ℕ) → number ≡ state_refusal run pages numbers 0 → (number ≡ 0 → ⊥) → request_refusal run pages numbers p ≡ number
  unfolding request_refusal
  request_state number e n = state_fall run pages numbers number e n _

  module _ (z : state_refusal run pages numbers 0 ≡ 0) where
    -- refused by the counter
    pub request_last : run.requests ≡ 4294967295 → request_refusal run pages numbers p ≡ 12
    unfolding request_refusal
    request_last e = state_pass run pages numbers (state_ready run pages numbers z) _ ∙ rw (eq-eqb run.requests 4294967295 e)

    module _ (more : run.requests ≡ 4294967295 → ⊥) (r : Result Stepped RuleApplied) (rows' : List Row)
        (t : SteppedTo run.k run.a run.s p (length pages) (rows_of numbers pages) rows' r) where
      request_judged : request_refusal run pages numbers p ≡ refuse (is_err r) 10 0
      unfolding request_refusal
      request_judged =
          state_pass run pages numbers (state_ready run pages numbers z) _
          ∙ rw (ne_eqb run.requests 4294967295 more, used_rows_lem run.k run.a run.s p (rows_of numbers pages), t.full_told)

    -- refused for want of places: the table is as it was
    pub request_full : (more : run.requests ≡ 4294967295 → ⊥) (r : Result Stepped RuleApplied) (rows' : List Row) → is_err r ≡ true
        → SteppedTo run.k run.a run.s p (length pages) (rows_of numbers pages) rows' r
        → (request_refusal run pages numbers p ≡ 10) × (rows' ≡ rows_of numbers pages)
    request_full more r rows' f t = (request_judged more r rows' t ∙ rw f, t.rows_told ∙ rw f)

    -- served
    pub request_served : (more : run.requests ≡ 4294967295 → ⊥) (d : Stepped) (pages' numbers' : List ℕ)
        → SteppedTo run.k run.a run.s p (length pages) (rows_of numbers pages) (rows_of numbers' pages') (Ok d) → length pages' ≡ length numbers'
        → (reply_by (rule_of d.rule) d.s run ≡ request_reply run pages numbers p)
        × (pages' ≡ pages_next run pages numbers p) × (numbers' ≡ numbers_next run pages numbers p)
    unfolding request_reply pages_next numbers_next
    request_served more d pages' numbers' t l =
        let free : request_refusal run pages numbers p ≡ 0 = request_judged more (Ok d) (rows_of numbers' pages') t in
        let table : rows_of numbers' pages' ≡ table_of (length pages) (rows_next run p (rows_of numbers pages)) =
        t.rows_told ∙ rw (used_rows_lem run.k run.a run.s p (rows_of numbers pages)) in
        let rule : rule_of d.rule ≡ rule_in run.k run.s p (used_rows (rows_of numbers pages)) =
        t.rule_told ∙ sym (used_rule run.k run.s p (rows_of numbers pages)) in
        let top : d.s ≡ top_after (rule_in run.k run.s p (used_rows (rows_of numbers pages))) run.k run.a run.s =
        t.done_told.top_told ∙ rw (used_rule run.k run.s p (rows_of numbers pages)) in (
          rw (free, rule, top),
          rw free (sym (pages_back numbers' pages' l) ∙ ap pages_of table),
          rw free (sym (numbers_back numbers' pages' l) ∙ ap numbers_of table),
        )

-- lists that make the same rows are the same
pub pages_same : (numbers pages numbers' pages' : List ℕ) → length pages ≡ length numbers → length pages' ≡ length numbers'
    → rows_of numbers' pages' ≡ rows_of numbers pages → pages' ≡ pages
pages_same numbers pages numbers' pages' l l' e = sym (pages_back numbers' pages' l') ∙ ap pages_of e ∙ pages_back numbers pages l

pub numbers_same : (numbers pages numbers' pages' : List ℕ) → length pages ≡ length numbers → length pages' ≡ length numbers'
    → rows_of numbers' pages' ≡ rows_of numbers pages → numbers' ≡ numbers
numbers_same numbers pages numbers' pages' l l' e = sym (numbers_back numbers' pages' l') ∙ ap numbers_of e ∙ numbers_back numbers pages l
