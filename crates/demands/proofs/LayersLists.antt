-- A list of calls to the layers, from the empty record and an unused table: the record and the table stand for the list's trace.
use Prim.Native.Nat.{ℕ, ◌≤◌}
use mathlib.Core.List.{List, [], ◌∷◌, ◌++◌, append_assoc, append-nil}
use mathlib.Core.Path.{sym, ◌∙◌}
use borrow.Author.Tests.{eqb-true, eqb-false}
use Rattle.lists.specs.Choice.{pick}
use Rattle.lists.proofs.Choice.{by_test}
use Rattle.layers.specs.Calls.{request_reply, pages_next, numbers_next}
use Rattle.layers.proofs.Steps.{Stands, start_stands, request_stands, refusal_keeps, reply_refusal}
use Rattle.demands.specs.LayersCalls.{LayersCall, request, ask_revealed, ask_possible, LayersState, layers_start, request_accepted, layers_next, layers_after_calls, accepted_page, layers_trace}

-- the state stands for a trace
abbrev pub StandsFor : (k a : ℕ) → (trace : List ℕ) → LayersState → Type 0
StandsFor k a trace x = Stands k a trace x.run x.pages x.numbers

module _ (k a : ℕ) where
  -- after a call: for the same trace if it was refused or a question, for the trace with the page behind it if it was an accepted request
  call_stands : (trace : List ℕ) (x : LayersState) (call : LayersCall) → StandsFor k a trace x
      → StandsFor k a (trace ++ accepted_page x call) (layers_next x call)
  call_stands trace x (request p) S =
      by_test
      (λ b. Stands k a (trace ++ pick b (p ∷ []) []) (pick b (request_reply x.run x.pages x.numbers p).run x.run)
      (pages_next x.run x.pages x.numbers p) (numbers_next x.run x.pages x.numbers p))
      (request_accepted x p)
      (λ e. request_stands k a trace x.run x.pages x.numbers S p
      (sym (reply_refusal x.run x.pages x.numbers p) ∙ eqb-true _ _ e))
      (λ e. let same = refusal_keeps x.run x.pages x.numbers p
      (λ z. eqb-false _ _ e (reply_refusal x.run x.pages x.numbers p ∙ z)) in
      let one = same.0 in
      let two = same.1 in
      rw (append-nil trace, one, two) S)
  call_stands trace x ask_revealed S = rw (append-nil trace) S
  call_stands trace x (ask_possible set) S = rw (append-nil trace) S

  pub calls_stand : (calls : List LayersCall) (trace : List ℕ) (x : LayersState) → StandsFor k a trace x
      → StandsFor k a (trace ++ layers_trace calls x) (layers_after_calls calls x)
  calls_stand [] trace x S = rw (append-nil trace) S
  calls_stand (call ∷ calls) trace x S =
      rw (← append_assoc trace (accepted_page x call) (layers_trace calls (layers_next x call)))
      (calls_stand calls (trace ++ accepted_page x call) (layers_next x call) (call_stands trace x call S))

  pub list_stands : 1 ≤ a → a ≤ k → k ≤ 256 → (places : ℕ) (calls : List LayersCall)
      → StandsFor k a (layers_trace calls (layers_start k a places)) (layers_after_calls calls (layers_start k a places))
  list_stands pos le small places calls = calls_stand calls [] (layers_start k a places) (start_stands k a pos le small places)
