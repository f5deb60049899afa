-- The layers count MIN's bundles, whatever follows the trace (source document 001, Theorem 1, here by one invariant along the trace,
-- for every rule that takes farthest pages).
use Prim.Native.Nat.{ℕ, zero, suc, ◌+◌, ◌≤◌, ◌<◌}
use native.Mathlib.Omega.{arith}
use mathlib.Core.Bool.{Bool, true, false}
use mathlib.Core.List.{List, [], ◌∷◌, ◌++◌, map, map-id}
use mathlib.Core.Path.{◌≡◌, refl, sym, ap, subst, ◌∙◌}
use lib.Dec.{eqb, ltb}
use lib.ListN.{length, get_or}
use borrow.Author.Tests.{eq-eqb, not-true}
use Rattle.lists.specs.Pages.{mem, distinct, count}
use Rattle.lists.proofs.Choice.{tests, and_l, and_r, or_none_l, or_none_r, eqb_self}
use Rattle.lists.proofs.Pages.{count_map, mem_here, mem_there}
use Rattle.paging.specs.Layers.{Layers, no_layers, LayerRule, append, join, lift, is_join, layered, layers_after, layer_rules, join_count}
use Rattle.paging.specs.Policy.{Rule, Kind, hit, load, bundled, is_bundled, is_load, serve, holds, kinds}
use Rattle.theory.specs.Farthest.{Farthest}
use Rattle.theory.specs.Loads.{from_l0, kind_of_rule}
use Rattle.theory.proofs.Bundles.{not_absent}
use Rattle.theory.proofs.LayerSteps.{layered_by, Agree, start_agrees, Together, appends, joins, lifts, step_agrees}

module _ (k a : ℕ) (pos : 1 ≤ a) (le : a ≤ k) (rule : Rule) (F : Farthest a rule) where
  pub holds_agree : (trace later : List ℕ) (L : Layers) (held : List ℕ) → Agree k L (trace ++ later) held
      → Agree k (layers_after k a trace L) later (holds rule k trace later held)
  holds_agree [] later L held A = A
  holds_agree (p ∷ ps) later L held A =
      holds_agree ps later (layered k a p L) (serve rule k p (ps ++ later) held) (step_agrees k a pos le rule F L p (ps ++ later) held A).0

  -- what is told of kinds and of layer rules, and goes together, gives one list, request by request
  run_together : {A : Type 0} (f : Kind → A) (g : LayerRule → A) → ((x : Kind) (r : LayerRule) → Together x r → f x ≡ g r)
      → (trace later : List ℕ) (L : Layers) (held : List ℕ) → Agree k L (trace ++ later) held
      → map f (kinds rule k trace later held) ≡ map g (layer_rules k a trace L)
  run_together f g e [] later L held A = refl
  run_together f g e (p ∷ ps) later L held A =
      let step = step_agrees k a pos le rule F L p (ps ++ later) held A in
      let rest = run_together f g e ps later (layered k a p L) (serve rule k p (ps ++ later) held) step.0 in
      rw (e _ _ step.1, rest)

  -- after the trace MIN holds pages as the layers allow, whatever follows
  pub layers_agree_with_min : (trace later : List ℕ) → Agree k (layers_after k a trace no_layers) later (holds rule k trace later [])
  layers_agree_with_min trace later = holds_agree trace later no_layers [] (start_agrees k (trace ++ later))

  -- each request is for MIN what its layer rule says, whatever follows
  pub kinds_are_rules : (trace later : List ℕ) → kinds rule k trace later [] ≡ map kind_of_rule (layer_rules k a trace no_layers)
  kinds_are_rules trace later =
      sym (map-id (kinds rule k trace later []))
      ∙ run_together (λ x. x) kind_of_rule (λ x r t. kind_of_rule_lem x r t) trace later no_layers [] (start_agrees k (trace ++ later))
    where
      kind_of_rule_lem : (x : Kind) (r : LayerRule) → Together x r → x ≡ kind_of_rule r
      kind_of_rule_lem load append appends = refl
      kind_of_rule_lem bundled join joins = refl
      kind_of_rule_lem hit lift lifts = refl
      kind_of_rule_lem hit append x3 = elim x3 [ ]
      kind_of_rule_lem hit join x4 = elim x4 [ ]
      kind_of_rule_lem load join x4 = elim x4 [ ]
      kind_of_rule_lem load lift x5 = elim x5 [ ]
      kind_of_rule_lem bundled append x5 = elim x5 [ ]
      kind_of_rule_lem bundled lift x6 = elim x6 [ ]

  -- MIN makes a bundle exactly where layers join, whatever follows
  pub bundles_are_joins : (trace later : List ℕ) → map is_bundled (kinds rule k trace later []) ≡ map is_join (layer_rules k a trace no_layers)
  bundles_are_joins trace later =
      run_together is_bundled is_join (λ x r t. bundled_joins x r t) trace later no_layers [] (start_agrees k (trace ++ later))
    where
      bundled_joins : (x : Kind) (r : LayerRule) → Together x r → is_bundled x ≡ is_join r
      bundled_joins load append appends = refl
      bundled_joins bundled join joins = refl
      bundled_joins hit lift lifts = refl
      bundled_joins hit append x3 = elim x3 [ ]
      bundled_joins hit join x4 = elim x4 [ ]
      bundled_joins load join x4 = elim x4 [ ]
      bundled_joins load lift x5 = elim x5 [ ]
      bundled_joins bundled append x5 = elim x5 [ ]
      bundled_joins bundled lift x6 = elim x6 [ ]

  -- MIN loads a page exactly where rule 1a or 1b applies, whatever follows
  pub loads_are_appends_and_joins : (trace later : List ℕ)
      → map is_load (kinds rule k trace later []) ≡ map from_l0 (layer_rules k a trace no_layers)
  loads_are_appends_and_joins trace later =
      run_together is_load from_l0 (λ x r t. load_from x r t) trace later no_layers [] (start_agrees k (trace ++ later))
    where
      load_from : (x : Kind) (r : LayerRule) → Together x r → is_load x ≡ from_l0 r
      load_from load append appends = refl
      load_from bundled join joins = refl
      load_from hit lift lifts = refl
      load_from hit append x3 = elim x3 [ ]
      load_from hit join x4 = elim x4 [ ]
      load_from load join x4 = elim x4 [ ]
      load_from load lift x5 = elim x5 [ ]
      load_from bundled append x5 = elim x5 [ ]
      load_from bundled lift x6 = elim x6 [ ]

  -- s is the number of pages that MIN holds, whatever follows
  pub layers_top_is_min_size : (trace later : List ℕ) → length (holds rule k trace later []) ≡ (layers_after k a trace no_layers).top
  layers_top_is_min_size trace later = (layers_agree_with_min trace later).size

  -- the layers' bundles are MIN's, whatever follows; so are the loads
  pub layers_count_min_bundles : (trace later : List ℕ) → join_count k a trace ≡ count is_bundled (kinds rule k trace later [])
  layers_count_min_bundles trace later =
      count_map is_join (layer_rules k a trace no_layers)
      ∙ ap (λ (bs : List Bool). count (λ b. b) bs) (sym (bundles_are_joins trace later))
      ∙ sym (count_map is_bundled (kinds rule k trace later []))

  pub layers_count_min_loads : (trace later : List ℕ)
      → count from_l0 (layer_rules k a trace no_layers) ≡ count is_load (kinds rule k trace later [])
  layers_count_min_loads trace later =
      count_map from_l0 (layer_rules k a trace no_layers)
      ∙ ap (λ (bs : List Bool). count (λ b. b) bs) (sym (loads_are_appends_and_joins trace later))
      ∙ sym (count_map is_load (kinds rule k trace later []))

-- The start of source document 001: after k different pages each is a layer of its own, in order

-- M is L with each page of the trace put behind as a layer of its own
abbrev Followed : (trace : List ℕ) (L M : Layers) → Type 0
Followed trace L M =
    (M.top ≡ L.top + length trace)
    × ((i : ℕ) → i < length trace → M.of (get_or trace i 0) ≡ L.top + i + 1)
    × ((q : ℕ) → mem q trace ≡ false → M.of q ≡ L.of q)

distinct_from : (k a : ℕ) (trace : List ℕ) (L : Layers) → distinct trace ≡ true → L.top + length trace ≤ k
    → ((q : ℕ) → mem q trace ≡ true → L.of q ≡ 0) → Followed trace L (layers_after k a trace L)
distinct_from k a [] L d h z = (omega arith, λ i g. absurd (omega arith), λ q m. refl)
distinct_from k a (p ∷ ps) L d h z =
    let e : eqb (L.of p) 0 ≡ true = eq-eqb _ _ (z p (mem_here p ps)) in
    let s : ltb L.top k ≡ true = omega tests in
    let next : layered k a p L ≡ layered_by append k a p L = rw (e, s) in
    let absent : mem p ps ≡ false = not-true _ (and_l _ _ d) in
    let rest = distinct_from k a ps (layered_by append k a p L) (and_r _ _ d) (omega arith)
    (λ q m. rw (not_absent p ps absent q m) (z q (mem_there q p ps m))) in
    subst (λ N. Followed (p ∷ ps) L (layers_after k a ps N)) (sym next) (
      omega (arith, rest.0),
      elim [ zero ↦ λ g. rest.2 p absent ∙ rw (eqb_self p) (omega arith) | suc i ↦ λ g. rest.1 i (omega arith) ∙ omega arith ],
      λ q m. rest.2 q (or_none_r _ _ m) ∙ rw (or_none_l _ _ m),
    )

-- page i of the trace has number i + 1, and every other page is in L0
pub different_pages_are_layers : (k a : ℕ) (trace : List ℕ) → distinct trace ≡ true → length trace ≤ k
    → ((layers_after k a trace no_layers).top ≡ length trace)
    × ((i : ℕ) → i < length trace → (layers_after k a trace no_layers).of (get_or trace i 0) ≡ i + 1)
    × ((q : ℕ) → mem q trace ≡ false → (layers_after k a trace no_layers).of q ≡ 0)
different_pages_are_layers k a trace d h =
    let all = distinct_from k a trace no_layers d (omega arith) (λ q m. refl) in
    (omega (arith, all.0), λ i g. omega (arith, all.1 i g), all.2)
