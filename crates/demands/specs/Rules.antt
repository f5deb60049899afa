-- Which layer rule applied (document 02, request 02), over lists of calls to the layers: requests and questions in any order, refused ones included.
use Rattle.std.specs.Prelude.{ℕ, ◌+◌, true, List, ◌≡◌}
use Rattle.paging.specs.Numbers.{rule_number}
use Rattle.lists.specs.Pages.{count}
use Rattle.paging.specs.Layers.{LayerRule, is_append, is_join, is_lift, no_layers, layer_rule, layers_after, layer_rules}
use Rattle.paging.specs.Min.{best_count, min_loads}
use Rattle.layers.specs.Calls.{state_refusal, request_reply}
use Rattle.layers.specs.declared.LayersRun.{LayersRun}
use Rattle.demands.specs.LayersCalls.{LayersCall, layers_start, request_accepted, layers_after_calls, layers_trace}

-- the record counts each rule as often as it stands in the list
pub record CountsRules (run : LayersRun) (rules : List LayerRule) : Type 0 where
  pub appended : run.appends ≡ count is_append rules
  pub joined : run.joins ≡ count is_join rules
  pub lifted : run.lifts ≡ count is_lift rules

pub record RulesTold (k a : ℕ) : Type 0 where
  -- "each accepted layer request now answers 1 for rule 1a, 2 for 1b, 3 for 1c": the rule that Figure 1 applies to the layers of the list's trace
  pub request_answers_its_rule : (places : ℕ) (calls : List LayersCall) (page : ℕ)
      → (let x = layers_after_calls calls (layers_start k a places) in
      let L = layers_after k a (layers_trace calls (layers_start k a places)) no_layers in
      request_accepted x page ≡ true → (request_reply x.run x.pages x.numbers page).answer ≡ rule_number (layer_rule k (L.of page) L.top))
  -- "the run record of the layers also carries three counts, one for each rule": of the rules that applied over the list's trace
  pub record_counts_the_rules : (places : ℕ) (calls : List LayersCall)
      → CountsRules (layers_after_calls calls (layers_start k a places)).run (layer_rules k a (layers_trace calls (layers_start k a places)) no_layers)
  -- what they tell a reader: the first two together are MIN's loads over the trace, and the second is the best count
  pub counts_are_mins : (places : ℕ) (calls : List LayersCall)
      → (let run = (layers_after_calls calls (layers_start k a places)).run in
      let trace = layers_trace calls (layers_start k a places) in
      (run.appends + run.joins ≡ min_loads k a trace) × (run.joins ≡ best_count k a trace))
  -- so the record stays well formed: whatever list went before, a call is not refused with 1, 2, 8 or 9, but only with what comes behind them
  pub state_is_never_refused : (places : ℕ) (calls : List LayersCall) (rest : ℕ)
      → (let x = layers_after_calls calls (layers_start k a places) in state_refusal x.run x.pages x.numbers rest ≡ rest)
