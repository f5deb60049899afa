-- The layers over a whole trace: what is refused before the first request, a table too small on the way, and the table at the end.
use Prim.Native.Nat.{ℕ, ◌≤◌}
use native.Mathlib.Omega.{arith}
use mathlib.Core.Bool.{Bool, true, not}
use mathlib.Core.List.{List, [], ◌∷◌}
use mathlib.Core.Path.{◌≡◌, refl, sym, ap, ◌∙◌}
use Rattle.std.specs.Prelude.{Option, Some, None, is_none}
use lib.Dec.{eqb}
use lib.ListN.{length, replicate}
use borrow.Author.Tests.{ne_eqb, eqb-true, not-false}
use Rattle.lists.specs.Sorting.{Row}
use Rattle.lists.proofs.Choice.{and_l, and_r}
use Rattle.paging.specs.Refusals.{longest_trace, refuse, trace_refusal, SizesRight}
use Rattle.paging.specs.Rows.{rows_of, numbers_of, pages_of, unused, used_rows, table_of}
use Rattle.paging.specs.Table.{revealed, nothing_yet, tabled_after}
use Rattle.paging.proofs.Forming.{used_table}
use Rattle.paging.proofs.Refusals.{zero_pass, Chain, chain_end, chain_refuse, chain_behind, chain_pass, chain_fall, trace_chain, trace_right}
use Rattle.paging.proofs.Rows.{numbers_back, pages_back}
use Rattle.table.specs.Serving.{Sound}
use Rattle.layers.specs.Formed.{is_unused}
use Rattle.layers.specs.Traces.{LayersTotalsAnswer, all_unused, trace_totals, pages_over, numbers_over, early_refusal, over_refusal}
use Rattle.layers.specs.declared.trace.Served.{Served}
use Rattle.layers.specs.inner.Over.{ServedTo}
use Rattle.layers.specs.inner.Sizes.{numbered}
use Rattle.layers.proofs.Asking.{revealed_used}
use Rattle.layers.proofs.Steps.{tabled_formed}

module _ (k a : ℕ) (trace pages numbers : List ℕ) where
  early_chain : Chain (early_refusal k a trace pages numbers)
  unfolding early_refusal
  early_chain =
      let uneven = not (eqb (length pages) (length numbers)) in
      let used = not (all_unused (rows_of numbers pages)) in
      chain_behind (trace_refusal k a trace) (λ rest. refuse uneven 8 (refuse used 9 rest)) (trace_chain k a trace)
      (chain_refuse uneven 8 (λ rest. refuse used 9 rest) (λ z. omega arith) (chain_refuse used 9 (λ rest. rest) (λ z. omega arith) chain_end))

  early_falls : (number rest : ℕ) → number ≡ early_refusal k a trace pages numbers 0 → (number ≡ 0 → ⊥)
      → early_refusal k a trace pages numbers rest ≡ number
  early_falls number rest e n = chain_fall (early_refusal k a trace pages numbers) early_chain rest number e n

  -- what is known where nothing is refused before the first request
  pub record Begun : Type 0 where
    pub sizes : SizesRight k a
    pub short : length trace ≤ longest_trace
    pub even : length pages ≡ length numbers
    pub blank : all_unused (rows_of numbers pages) ≡ true

  pub begins : (rest : ℕ) → early_refusal k a trace pages numbers rest ≡ 0 → Begun × (rest ≡ 0)
  unfolding early_refusal
  begins rest e =
      let first = trace_right k a trace _ e in
      let second = zero_pass (not (eqb (length pages) (length numbers))) 8 _ (λ z. omega arith) first.2 in
      let third = zero_pass (not (all_unused (rows_of numbers pages))) 9 rest (λ z. omega arith) second.1 in (
        record { sizes = first.0; short = first.1; even = eqb-true _ _ (not-false _ second.0); blank = not-false _ third.0 },
        third.1,
      )

  pub early_passes : 0 ≡ early_refusal k a trace pages numbers 0 → Begun × ((rest : ℕ) → early_refusal k a trace pages numbers rest ≡ rest)
  early_passes e =
      ((begins 0 (sym e)).0, λ rest. chain_pass (early_refusal k a trace pages numbers) early_chain rest (sym e))

-- A table that is all unused holds zeros

pub blank_rows : (ns ps : List ℕ) → length ps ≡ length ns → all_unused (rows_of ns ps) ≡ true
    → (ps ≡ replicate (length ps) 0) × (ns ≡ replicate (length ns) 0) × (rows_of ns ps ≡ replicate (length ps) unused)
unfolding is_unused
blank_rows [] [] e u = (refl, refl, refl)
blank_rows [] (p ∷ ps) e u = absurd (omega (arith, e))
blank_rows (n ∷ ns) [] e u = absurd (omega (arith, e))
blank_rows (n ∷ ns) (p ∷ ps) e u =
    let n0 : n ≡ 0 = eqb-true _ _ (and_l _ _ (and_l _ _ u)) in
    let p0 : p ≡ 0 = eqb-true _ _ (and_r _ _ (and_l _ _ u)) in
    let rest = blank_rows ns ps (omega (arith, e)) (and_r _ _ u) in
    let one = rest.0 in
    let two = rest.1 in
    let three = rest.2 in
    (rw p0 (ap (λ (l : List ℕ). 0 ∷ l) one), rw n0 (ap (λ (l : List ℕ). 0 ∷ l) two), rw (n0, p0) (ap (λ (l : List Row). unused ∷ l) three))

-- The call

module _ (k a : ℕ) (trace pages numbers : List ℕ) where
  refused_over : (number : ℕ) → (number ≡ 0 → ⊥) → over_refusal k a trace pages numbers ≡ number
      → (◌≡◌ {A = LayersTotalsAnswer} (record { refusal = number; bundles = 0; s = 0; revealed = 0 }) (trace_totals k a trace pages numbers))
      × (pages ≡ pages_over k a trace pages numbers) × (numbers ≡ numbers_over k a trace pages numbers)
  unfolding trace_totals pages_over numbers_over
  refused_over number n e = (rw (e, ne_eqb number 0 n) refl, rw (e, ne_eqb number 0 n) refl, rw (e, ne_eqb number 0 n) refl)

  pub over_early : (number : ℕ) → number ≡ early_refusal k a trace pages numbers 0 → (number ≡ 0 → ⊥)
      → (◌≡◌ {A = LayersTotalsAnswer} (record { refusal = number; bundles = 0; s = 0; revealed = 0 }) (trace_totals k a trace pages numbers))
      × (pages ≡ pages_over k a trace pages numbers) × (numbers ≡ numbers_over k a trace pages numbers)
  over_early number e n = refused_over number n (early_falls k a trace pages numbers number _ e n)

  pub serve_ready : 0 ≡ early_refusal k a trace pages numbers 0
      → (length pages ≡ length numbers) × Sound k a 0 × (length trace ≤ 65536) × (rows_of numbers pages ≡ replicate (length pages) unused)
  serve_ready begins =
      let b = (early_passes k a trace pages numbers begins).0 in
      let z = b.sizes in
      (b.even, record { sizes = z; s_high = omega arith }, b.short, (blank_rows numbers pages b.even b.blank).2)

  module _ (begins : 0 ≡ early_refusal k a trace pages numbers 0) (ps ns : List ℕ) where
    begun : Begun k a trace pages numbers
    begun = (early_passes k a trace pages numbers begins).0

    refusal_is : (r : Option Served) → ServedTo k a trace (length pages) (rows_of ns ps) r → over_refusal k a trace pages numbers ≡ refuse (is_none r) 10 0
    refusal_is r told =
        (early_passes k a trace pages numbers begins).1 _
        ∙ ap (λ (b : Bool). refuse b 10 0) (sym told.full_told)

    pub over_full : (p q : List ℕ) (m n : ℕ) → ServedTo k a trace (length pages) (rows_of ns ps) None
        → m ≡ length pages → n ≡ length numbers → p ≡ replicate m 0 → q ≡ replicate n 0
        → (◌≡◌ {A = LayersTotalsAnswer} (record { refusal = 10; bundles = 0; s = 0; revealed = 0 }) (trace_totals k a trace pages numbers))
        × (p ≡ pages_over k a trace pages numbers) × (q ≡ numbers_over k a trace pages numbers)
    over_full p q m n told mp nq ep en =
        let blank = blank_rows numbers pages begun.even begun.blank in
        let z = refused_over 10 (λ z. omega arith) (refusal_is None told) in
        (z.0, ep ∙ rw mp (sym blank.0) ∙ z.1, en ∙ rw nq (sym blank.1) ∙ z.2)

    rows_used_lem : used_rows (table_of (length pages) (tabled_after k a trace nothing_yet).rows) ≡ (tabled_after k a trace nothing_yet).rows
    rows_used_lem = let b = begun.sizes in used_table (length pages) _ (tabled_formed k a b.a_low b.a_high trace).above

    module _ (r : Served) (told : ServedTo k a trace (length pages) (rows_of ns ps) (Some r)) where
      pub over_done : (shown : ℕ) → length ps ≡ length pages → length ns ≡ length numbers → shown ≡ revealed r.s (numbered ns)
          → (◌≡◌ {A = LayersTotalsAnswer} (record { refusal = 0; bundles = r.joins; s = r.s; revealed = shown }) (trace_totals k a trace pages numbers))
          × (ps ≡ pages_over k a trace pages numbers) × (ns ≡ numbers_over k a trace pages numbers)
      unfolding trace_totals pages_over numbers_over
      over_done shown ep en v =
          let e : length ps ≡ length ns = ep ∙ begun.even ∙ sym en in
          let z : over_refusal k a trace pages numbers ≡ 0 = refusal_is (Some r) told in
          let t = told.served_told in
          let rows = t.rows_told in
          let shown_is : shown ≡ revealed r.s (tabled_after k a trace nothing_yet).rows = v ∙ revealed_used ns ps r.s e ∙ rw (rows, rows_used_lem) refl in (
            rw (z, shown_is, t.s_told, t.joins_told) refl,
            rw z (sym (pages_back ns ps e) ∙ ap pages_of rows),
            rw z (sym (numbers_back ns ps e) ∙ ap numbers_of rows),
          )

      pub s_small : r.s ≤ 256
      s_small =
          let b = begun.sizes in
          let g = (tabled_formed k a b.a_low b.a_high trace).most in omega (arith, told.served_told.s_told, b.k_high)
