-- Possible sets are exact (source document 001, Lemma 1): a set is possible by the layers exactly if MIN can come to hold just that set. To
-- show that it can, the set itself follows the trace.
use Prim.Native.Nat.{ℕ, ◌≤◌}
use native.Mathlib.Omega.{arith}
use mathlib.Core.Bool.{Bool, true, not}
use mathlib.Core.List.{List, []}
use mathlib.Core.Logic.{◌↔◌}
use mathlib.Core.Path.{◌≡◌, refl, sym, ◌∙◌}
use lib.Dec.{leb}
use lib.ListN.{length}
use lib.Seq.{take-length}
use borrow.Author.Tests.{eqb-true, leb-false, eq-eqb, not-false}
use Rattle.lists.specs.Choice.{◌and◌}
use Rattle.lists.specs.Pages.{mem, distinct, count}
use Rattle.lists.proofs.Choice.{cases, clash, and_l, and_r, and_i, same_test, not_i}
use Rattle.lists.proofs.Pages.{Same, Once, distinct_once, count_incl, count_by, count_zero, count_length, count_not, count_all, same_of_members, length_same}
use Rattle.paging.specs.Layers.{Layers, no_layers, layers_after, up_to, possible}
use Rattle.paging.specs.Min.{min_rule}
use Rattle.paging.specs.Policy.{Rule, holds}
use Rattle.paging.proofs.Possible.{holds_at, holds_of}
use Rattle.theory.specs.Farthest.{Farthest}
use Rattle.theory.specs.Possible.{HoldsJust, CanHold}
use Rattle.theory.proofs.LayerSteps.{Cut, Agree}
use Rattle.theory.proofs.Layers.{layers_agree_with_min}
use Rattle.theory.proofs.Orders.{min_rule_is_farthest}

-- the pages held where the set follows are the set
module _ (k : ℕ) (L : Layers) (set held : List ℕ) (A : Agree k L set held) (o : Once set) (sized : length set ≡ L.top)
    (fits : (i : ℕ) → i ≤ L.top → up_to L i set ≤ i) where
  set_held : (q : ℕ) → mem q set ≡ true → mem q held ≡ true
  set_held q m =
      let c : Cut L set held = rw (take-length set) at (A.cut (length set)) in
      let low : ℕ → Bool = λ r. leb (L.of r) c.at in
      let at_most : c.at ≤ L.top = omega (arith, c.full, count_length (λ r. low r and mem r set) held, A.size) in
      let all-low : count (λ r. low r and not (mem r held)) set ≡ 0 =
      omega (
        arith,
        c.full,
        fits c.at at_most,
        count_by low (λ r. mem r held) set,
        count_incl (λ r. low r and mem r set) (λ r. low r and mem r held) held set A.once
            (λ r i t. (and_r _ _ t, and_i _ _ (and_l _ _ t) i)),
      ) in
      cases (low q)
      (λ e. cases (mem q held) (λ h. h)
      (λ h. clash _ (and_i _ _ e (not_i _ h)) (count_zero (λ r. low r and not (mem r held)) q set all-low m)))
      (λ e. c.inside q m (leb-false _ _ e))

  held_in_set : (q : ℕ) → mem q held ≡ true → mem q set ≡ true
  held_in_set q m =
      let most : count (λ r. true) set ≤ count (λ r. mem r set) held = count_incl (λ r. true) (λ r. mem r set) set held o (λ r i t. (set_held r i, i)) in
      let none : count (λ r. not (mem r set)) held ≡ 0 =
      omega (arith, count_all (λ r. true) set (λ r i. refl), count_not (λ r. mem r set) held, A.size) in
      not-false _ (count_zero (λ r. not (mem r set)) q held none m)

module _ (k a : ℕ) (pos : 1 ≤ a) (le : a ≤ k) (rule : Rule) (F : Farthest a rule) (trace set : List ℕ) (d : distinct set ≡ true) where
  -- what the rule holds, whatever pages follow, is possible
  pub possible_of_held : (later : List ℕ) → HoldsJust (holds rule k trace later []) set → possible (layers_after k a trace no_layers) set ≡ true
  possible_of_held later h =
      let A = layers_agree_with_min k a pos le rule F trace later in
      let held = holds rule k trace later [] in
      let same : Same held set = same_of_members held set A.once (distinct_once set d) h in
      and_i _ _ (eq-eqb _ _ (sym (length_same held set same) ∙ A.size))
      (holds_of (layers_after k a trace no_layers) set (layers_after k a trace no_layers).top
      (λ i l. omega (arith, same (λ q. leb ((layers_after k a trace no_layers).of q) i), A.below i)))

  -- where a possible set follows the trace, the rule holds just that set
  pub held_of_possible : possible (layers_after k a trace no_layers) set ≡ true → HoldsJust (holds rule k trace set []) set
  held_of_possible h =
      let L = layers_after k a trace no_layers in
      let A = layers_agree_with_min k a pos le rule F trace set in
      let sized : length set ≡ L.top = eqb-true _ _ (and_l _ _ h) in
      let fits = holds_at L set L.top (and_r _ _ h) in
      λ q. same_test _ _ (held_in_set k L set (holds rule k trace set []) A (distinct_once set d) sized fits q)
      (set_held k L set (holds rule k trace set []) A (distinct_once set d) sized fits q)

  pub possible_is_exact : (possible (layers_after k a trace no_layers) set ≡ true) ↔ CanHold rule k trace set
  possible_is_exact = (λ h. (set, λ q m. m, held_of_possible h), λ c. possible_of_held c.0 c.2)

-- for MIN's order
pub possible_is_what_min_can_hold : (k a : ℕ) → 1 ≤ a → a ≤ k → (trace set : List ℕ) → distinct set ≡ true
    → (possible (layers_after k a trace no_layers) set ≡ true) ↔ CanHold (min_rule a) k trace set
possible_is_what_min_can_hold k a pos le trace set d = possible_is_exact k a pos le (min_rule a) (min_rule_is_farthest a) trace set d

pub min_holds_possible_sets : (k a : ℕ) → 1 ≤ a → a ≤ k → (trace set : List ℕ) → distinct set ≡ true → (later : List ℕ)
    → HoldsJust (holds (min_rule a) k trace later []) set → possible (layers_after k a trace no_layers) set ≡ true
min_holds_possible_sets k a pos le trace set d = possible_of_held k a pos le (min_rule a) (min_rule_is_farthest a) trace set d
