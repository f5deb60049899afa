-- What an answer to the question on a set says: `Yes` and the layer of a "no", by the layers as a map and in every state.
use Prim.Native.Nat.{ℕ, suc}
use native.Mathlib.Omega.{arith}
use mathlib.Core.Bool.{Bool, true, false}
use mathlib.Core.List.{List}
use mathlib.Core.Logic.{◌↔◌}
use mathlib.Core.Path.{◌≡◌, refl, sym, ap, ◌∙◌}
use Rattle.std.specs.Prelude.{Result, Ok, Err}
use Rattle.paging.proofs.Numbers.{reason_of, reason_back}
use Rattle.paging.specs.declared.reasons.Refusal.{Refusal}
use lib.Dec.{eqb}
use lib.ListN.{length}
use borrow.Author.Tests.{eq-eqb, eqb-true, ltb-true}
use Rattle.lists.specs.Choice.{pick, ◌and◌}
use Rattle.lists.proofs.Choice.{cases, and_l, and_r}
use Rattle.paging.specs.Layers.{Layers, holds_up_to, possible, lowest_broken, BreaksFirstAt}
use Rattle.paging.specs.Rows.{rows_of}
use Rattle.paging.proofs.Possible.{holds_not, lowest_breaks_first, first_is_lowest, breaks_below}
use Rattle.layers.specs.LowestLayer.{LowestLayerTold}
use Rattle.layers.specs.Questions.{layers_in, Verdict, refused_with, possible_set, count_differs, broken_at, verdict_of, judged, possible_refusal, verdict}
use Rattle.layers.specs.declared.LayersRun.{LayersRun}
use Rattle.layers.specs.declared.PossibleAnswer.{PossibleAnswer}
use Rattle.layers.specs.declared.PossibleAnswer.TheVariants.{Yes, CountDiffers, BrokenAt}

-- Each verdict is that of one answer

abbrev answer_of : Verdict → Result PossibleAnswer Refusal
answer_of (refused_with number) = Err (reason_of number)
answer_of possible_set = Ok Yes
answer_of count_differs = Ok CountDiffers
answer_of (broken_at layer) = Ok (BrokenAt layer)

answer_back : (r : Result PossibleAnswer Refusal) → answer_of (verdict_of r) ≡ r
answer_back (Ok Yes) = refl
answer_back (Ok CountDiffers) = refl
answer_back (Ok (BrokenAt i)) = refl
answer_back (Err reason) = ap (λ (e : Refusal). Err e) (reason_back reason)

same_answer : (r r' : Result PossibleAnswer Refusal) → verdict_of r ≡ verdict_of r' → r ≡ r'
same_answer r r' e = sym (answer_back r) ∙ ap answer_of e ∙ answer_back r'

abbrev is_possible : Verdict → Bool
is_possible (refused_with number) = false
is_possible possible_set = true
is_possible count_differs = false
is_possible (broken_at layer) = false

-- 0 where it names no layer, else one more than the layer
abbrev behind_layer : Verdict → ℕ
behind_layer (refused_with number) = 0
behind_layer possible_set = 0
behind_layer count_differs = 0
behind_layer (broken_at layer) = suc layer

-- A set that is not refused, by the layers as a map

judged_yes : (L : Layers) (set : List ℕ) → possible L set ≡ true → judged L set ≡ possible_set
judged_yes L set e = rw (and_l _ _ e, and_r _ _ e)

judged_breaks : (L : Layers) (set : List ℕ) → length set ≡ L.top → holds_up_to L set L.top ≡ false → judged L set ≡ broken_at (lowest_broken L set L.top)
judged_breaks L set e h = rw (eq-eqb (length set) L.top e, h)

judged_names : (L : Layers) (set : List ℕ) (i : ℕ) → broken_at i ≡ judged L set → (length set ≡ L.top) × BreaksFirstAt L set i
judged_names L set i told =
    cases (eqb (length set) L.top)
    (λ e. cases (holds_up_to L set L.top)
    (λ h. let none : suc i ≡ 0 = ap behind_layer (rw (e, h) at told) in absurd (omega arith))
    (λ h.
    let next : suc i ≡ suc (lowest_broken L set L.top) = ap behind_layer (rw (e, h) at told) in
    let same : i ≡ lowest_broken L set L.top = omega arith in
    (eqb-true _ _ e, rw same (lowest_breaks_first L set L.top h))))
    (λ e. let none : suc i ≡ 0 = ap behind_layer (rw e at told) in absurd (omega arith))

judged_possible : (L : Layers) (set : List ℕ) → is_possible (judged L set) ≡ possible L set
judged_possible L set = one (eqb (length set) L.top) (holds_up_to L set L.top) (lowest_broken L set L.top)
  where
    one : (b c : Bool) (layer : ℕ) → is_possible (pick b (pick c possible_set (broken_at layer)) count_differs) ≡ b and c
    one true true layer = unfold ◌and◌ in refl
    one true false layer = unfold ◌and◌ in refl
    one false c layer = unfold ◌and◌ in refl

module _ (L : Layers) (set : List ℕ) (r : Result PossibleAnswer Refusal) (told : verdict_of r ≡ judged L set) where
  -- it is answered with Yes exactly if it is possible
  pub yes_is_possible : (r ≡ Ok Yes) ↔ (possible L set ≡ true)
  yes_is_possible = (
    λ e. sym (judged_possible L set) ∙ sym (ap is_possible told) ∙ ap (λ z. is_possible (verdict_of z)) e,
    λ e. same_answer r (Ok Yes) (told ∙ judged_yes L set e),
  )

  -- and a layer is named exactly if the set has s pages and the rule breaks there and at no layer below
  pub broken_is_first : (i : ℕ) → (r ≡ Ok (BrokenAt i)) ↔ ((length set ≡ L.top) × BreaksFirstAt L set i)
  broken_is_first i = (
    λ e. judged_names L set i (sym (ap verdict_of e) ∙ told),
    λ f.
        let B = f.1 in
        let size = f.0 in
        let low = breaks_below L set i B.breaks in
        let bad = holds_not L set L.top i (omega arith) (ltb-true i _ B.breaks) in
        same_answer r (Ok (BrokenAt i))
        (told ∙ judged_breaks L set size bad ∙ ap broken_at (first_is_lowest L set L.top i (omega arith) B)),
  )

-- In every state

verdict_judged : (run : LayersRun) (pages numbers set : List ℕ) → possible_refusal run pages numbers set ≡ 0
    → verdict run pages numbers set ≡ judged (layers_in run (rows_of numbers pages)) set
unfolding verdict
verdict_judged run pages numbers set e = rw e

-- a layer is named only where nothing is refused
pub named_taken : (run : LayersRun) (pages numbers set : List ℕ) (i : ℕ) → broken_at i ≡ verdict run pages numbers set → possible_refusal run pages numbers set ≡ 0
unfolding verdict
named_taken run pages numbers set i told =
    cases (eqb (possible_refusal run pages numbers set) 0)
    (λ e. eqb-true _ _ e)
    (λ e. let none : suc i ≡ 0 = ap behind_layer (rw e at told) in absurd (omega arith))

module _ (run : LayersRun) (pages numbers set : List ℕ) where
  named_exactly : (r : Result PossibleAnswer Refusal) → verdict_of r ≡ verdict run pages numbers set → (i : ℕ)
      → (r ≡ Ok (BrokenAt i))
      ↔ ((possible_refusal run pages numbers set ≡ 0) × (length set ≡ run.s) × BreaksFirstAt (layers_in run (rows_of numbers pages)) set i)
  named_exactly r told i = (
    λ e.
        let free = named_taken run pages numbers set i (sym (ap verdict_of e) ∙ told) in
        let f = (broken_is_first (layers_in run (rows_of numbers pages)) set r (told ∙ verdict_judged run pages numbers set free) i).0 e in
        (free, f.0, f.1),
    λ f. (broken_is_first (layers_in run (rows_of numbers pages)) set r (told ∙ verdict_judged run pages numbers set f.0) i).1 (f.1, f.2),
  )

  pub lowest_layer_is_told : LowestLayerTold run pages numbers set
  lowest_layer_is_told = record {
    named_exactly = named_exactly;
    below_s = λ r told i e.
        let f = (named_exactly r told i).0 e in
        let size = f.1 in
        omega (arith, breaks_below (layers_in run (rows_of numbers pages)) set i f.2.breaks);
    nothing_left_free = λ r r' told told'. same_answer r r' (told ∙ sym told');
  }
