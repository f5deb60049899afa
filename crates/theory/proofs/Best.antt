-- The best count (document 01, "What demand 3 compares"): the bundles of MIN's rule, as EVs, are a legal schedule with that cost, and no
-- legal schedule costs less; the layers count it; it never rises with k.
use Prim.Native.Nat.{ℕ, ◌≤◌}
use native.Mathlib.Omega.{arith}
use mathlib.Core.Bool.{true}
use mathlib.Core.List.{List, [], ◌∷◌}
use mathlib.Core.Path.{◌≡◌, refl, sym, ◌∙◌}
use lib.ListN.{length}
use borrow.Author.Tests.{leb-true, le-leb}
use Rattle.lists.specs.Pages.{count}
use Rattle.lists.proofs.Choice.{and_l, and_r, and_i}
use Rattle.paging.specs.Layers.{no_layers, layer_rules, join_count}
use Rattle.paging.specs.Min.{min_rule, best_count, min_loads}
use Rattle.paging.specs.Policy.{Rule, is_bundled, is_load, kinds, bundles}
use Rattle.paging.specs.Schedule.{Entry, Turn, after_turn, turn_legal, legal, cost, turns_from, serves, entries_cost}
use Rattle.paging.proofs.Runs.{bundles_cost}
use Rattle.theory.specs.Farthest.{Farthest}
use Rattle.theory.specs.Loads.{from_l0}
use Rattle.theory.proofs.Layers.{kinds_are_rules, layers_count_min_bundles, layers_count_min_loads}
use Rattle.theory.proofs.Optimal.{farthest_is_optimal}
use Rattle.theory.proofs.Orders.{min_rule_is_farthest}
use Rattle.theory.proofs.Schedules.{cost_of_entries, bundles_serve}

module _ (k a : ℕ) (pos : 1 ≤ a) (le : a ≤ k) where
  -- for every rule that takes farthest pages each request is the same, whatever follows; so it makes as many bundles and loads
  pub farthest_kinds_agree : (rule : Rule) → Farthest a rule → (trace later : List ℕ) → kinds rule k trace later [] ≡ kinds (min_rule a) k trace later []
  farthest_kinds_agree rule F trace later =
      kinds_are_rules k a pos le rule F trace later ∙ sym (kinds_are_rules k a pos le (min_rule a) (min_rule_is_farthest a) trace later)

  pub farthest_counts_agree : (rule : Rule) → Farthest a rule → (trace later : List ℕ)
      → count is_bundled (kinds rule k trace later []) ≡ best_count k a trace
  farthest_counts_agree rule F trace later =
      sym (layers_count_min_bundles k a pos le rule F trace later) ∙ layers_count_min_bundles k a pos le (min_rule a) (min_rule_is_farthest a) trace []

  pub farthest_loads_agree : (rule : Rule) → Farthest a rule → (trace later : List ℕ)
      → count is_load (kinds rule k trace later []) ≡ min_loads k a trace
  farthest_loads_agree rule F trace later =
      sym (layers_count_min_loads k a pos le rule F trace later) ∙ layers_count_min_loads k a pos le (min_rule a) (min_rule_is_farthest a) trace []

  -- MIN's bundles, as EVs, are a legal schedule of the trace; its cost is the best count
  pub min_serves : (trace : List ℕ) → serves k a trace (bundles (min_rule a) k 0 trace [] []) ≡ true
  min_serves trace = bundles_serve k a pos le (min_rule a) (min_rule_is_farthest a) trace []

  pub min_costs_best : (trace : List ℕ) → entries_cost (bundles (min_rule a) k 0 trace [] []) ≡ best_count k a trace
  min_costs_best trace = bundles_cost (min_rule a) k 0 trace [] []

  -- every other legal schedule costs at least the best count
  pub legal_costs_best : (trace : List ℕ) (turns : List Turn) → legal k a trace turns [] ≡ true → best_count k a trace ≤ cost turns
  legal_costs_best trace turns l = farthest_is_optimal k a le (min_rule a) (min_rule_is_farthest a) trace [] turns l

  pub serving_costs_best : (trace : List ℕ) (es : List Entry) → serves k a trace es ≡ true → best_count k a trace ≤ entries_cost es
  serving_costs_best trace es s =
      omega (arith, legal_costs_best trace (turns_from 0 (length trace) es) (and_r _ _ (and_r _ _ s)), cost_of_entries (length trace) es (and_l _ _ (and_r _ _ s)))

  -- the layers count the best count, and MIN's loads are the requests of pages from L0
  pub layers_count_best : (trace : List ℕ) → join_count k a trace ≡ best_count k a trace
  layers_count_best trace = layers_count_min_bundles k a pos le (min_rule a) (min_rule_is_farthest a) trace []

  pub layers_count_loads : (trace : List ℕ) → count from_l0 (layer_rules k a trace no_layers) ≡ min_loads k a trace
  layers_count_loads trace = layers_count_min_loads k a pos le (min_rule a) (min_rule_is_farthest a) trace []

-- A larger buffer

turn_legal_larger : (k j a : ℕ) → k ≤ j → (turn : Turn) (p : ℕ) (held : List ℕ) → turn_legal k a turn p held ≡ true
    → turn_legal j a turn p held ≡ true
turn_legal_larger k j a h turn p held l =
    let fits : length (after_turn turn p held) ≤ k = leb-true _ _ (and_r _ _ (and_r _ _ l)) in
    and_i _ _ (and_l _ _ l) (and_i _ _ (and_l _ _ (and_r _ _ l)) (le-leb (length (after_turn turn p held)) j (omega arith)))

-- a schedule of a buffer of k pages is legal for more
pub legal_larger : (k j a : ℕ) → k ≤ j → (trace : List ℕ) (turns : List Turn) (held : List ℕ) → legal k a trace turns held ≡ true
    → legal j a trace turns held ≡ true
legal_larger k j a h [] [] held l = refl
legal_larger k j a h [] (turn ∷ turns) held l = l
legal_larger k j a h (p ∷ ps) [] held l = l
legal_larger k j a h (p ∷ ps) (turn ∷ turns) held l =
    and_i _ _ (turn_legal_larger k j a h turn p held (and_l _ _ l)) (legal_larger k j a h ps turns (after_turn turn p held) (and_r _ _ l))

pub serves_larger : (k j a : ℕ) → k ≤ j → (trace : List ℕ) (es : List Entry) → serves k a trace es ≡ true → serves j a trace es ≡ true
serves_larger k j a h trace es s =
    and_i _ _ (and_l _ _ s) (and_i _ _ (and_l _ _ (and_r _ _ s)) (legal_larger k j a h trace (turns_from 0 (length trace) es) [] (and_r _ _ (and_r _ _ s))))

-- the best count never rises with k
pub best_never_rises : (k j a : ℕ) → 1 ≤ a → a ≤ k → k ≤ j → (trace : List ℕ) → best_count j a trace ≤ best_count k a trace
best_never_rises k j a pos le h trace =
    omega (
      arith,
      min_costs_best k a pos le trace,
      serving_costs_best j a pos (omega arith) trace (bundles (min_rule a) k 0 trace [] []) (serves_larger k j a h trace (bundles (min_rule a) k 0 trace [] []) (min_serves k a pos le trace)),
    )
