-- Over a list of calls to the layers each accepted request answers the rule that applied, and the record counts the rules of the trace.
use Prim.Native.Nat.{ℕ, ◌+◌, ◌≤◌}
use mathlib.Core.List.{List}
use mathlib.Core.Path.{◌≡◌, refl, sym, ap, ◌∙◌}
use borrow.Author.Tests.{eqb-true}
use Rattle.lists.specs.Pages.{bit, count}
use Rattle.lists.proofs.Pages.{count_sum}
use Rattle.paging.specs.Layers.{LayerRule, append, join, lift, is_append, is_join, no_layers, layer_rules}
use Rattle.paging.specs.Refusals.{largest_k}
use Rattle.theory.specs.Loads.{from_l0}
use Rattle.theory.proofs.Best.{layers_count_best, layers_count_loads}
use Rattle.layers.specs.declared.LayersRun.{LayersRun}
use Rattle.layers.proofs.Steps.{never_ill_formed, answer_is, reply_refusal}
use Rattle.demands.specs.LayersCalls.{layers_start, layers_after_calls, layers_trace}
use Rattle.demands.specs.Rules.{RulesTold}
use Rattle.demands.proofs.LayersLists.{list_stands}

-- the rules that take the page from L0 are 1a and 1b
appends_and_joins : (rules : List LayerRule) → count is_append rules + count is_join rules ≡ count from_l0 rules
appends_and_joins rules = sym (count_sum from_l0 is_append is_join rules each)
  where
    each : (rule : LayerRule) → bit (from_l0 rule) ≡ bit (is_append rule) + bit (is_join rule)
    each append = refl
    each join = refl
    each lift = refl

pub rules_are_told : (k a : ℕ) → 1 ≤ a → a ≤ k → k ≤ largest_k → RulesTold k a
rules_are_told k a pos le small =
    record {
      request_answers_its_rule = λ places calls page accepted.
          let x = layers_after_calls calls (layers_start k a places) in
          answer_is k a (layers_trace calls (layers_start k a places)) x.run x.pages x.numbers (list_stands k a pos le small places calls) page
          (sym (reply_refusal x.run x.pages x.numbers page) ∙ eqb-true _ _ accepted);
      record_counts_the_rules = λ places calls.
          let same = (list_stands k a pos le small places calls).run_is in
          record {
            appended = ap (λ (run : LayersRun). run.appends) same;
            joined = ap (λ (run : LayersRun). run.joins) same;
            lifted = ap (λ (run : LayersRun). run.lifts) same;
          };
      counts_are_mins = λ places calls.
          let same = (list_stands k a pos le small places calls).run_is in
          let trace = layers_trace calls (layers_start k a places) in (
            ap (λ (run : LayersRun). run.appends + run.joins) same ∙ appends_and_joins (layer_rules k a trace no_layers) ∙ layers_count_loads k a pos le trace,
            ap (λ (run : LayersRun). run.joins) same ∙ layers_count_best k a pos le trace,
          );
      state_is_never_refused = λ places calls rest.
          let x = layers_after_calls calls (layers_start k a places) in
          never_ill_formed k a (layers_trace calls (layers_start k a places)) x.run x.pages x.numbers (list_stands k a pos le small places calls) rest;
    }
