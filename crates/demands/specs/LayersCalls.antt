-- Lists of calls to the layers (document 01, "What demand 3 compares"): requests and questions in any order, refused ones included.
-- Each step is what the promises of crate `layers` say of a call.
use Rattle.std.specs.Prelude.{ℕ, Bool, List, [], ◌∷◌, ◌++◌, eqb, replicate}
use Rattle.lists.specs.Choice.{pick}
use Rattle.layers.specs.Calls.{empty_run, request_reply, pages_next, numbers_next}
use Rattle.layers.specs.declared.LayersRun.{LayersRun}

-- a request for a page, the question for revealed pages, the question whether a set is possible
pub data LayersCall : Type 0 where
  request : (page : ℕ) → LayersCall
  ask_revealed : LayersCall
  ask_possible : (set : List ℕ) → LayersCall

-- the record and the table, as the accepted calls so far returned and left them
pub record LayersState : Type 0 where
  pub run : LayersRun
  pub pages : List ℕ
  pub numbers : List ℕ

-- the empty record, and a table of any size, all unused
abbrev pub layers_start : (k a places : ℕ) → LayersState
layers_start k a places = record { run = empty_run k a; pages = replicate places 0; numbers = replicate places 0 }

abbrev pub request_accepted : LayersState → ℕ → Bool
request_accepted x p = eqb (request_reply x.run x.pages x.numbers p).refusal 0

-- a refusal's zeros go no further; a question changes nothing
abbrev pub layers_next : LayersState → LayersCall → LayersState
layers_next x (request p) =
    record {
      run = pick (request_accepted x p) (request_reply x.run x.pages x.numbers p).run x.run;
      pages = pages_next x.run x.pages x.numbers p;
      numbers = numbers_next x.run x.pages x.numbers p;
    }
layers_next x ask_revealed = x
layers_next x (ask_possible set) = x

abbrev pub layers_after_calls : List LayersCall → LayersState → LayersState
layers_after_calls [] x = x
layers_after_calls (call ∷ calls) x = layers_after_calls calls (layers_next x call)

-- the page of an accepted request
abbrev pub accepted_page : LayersState → LayersCall → List ℕ
accepted_page x (request p) = pick (request_accepted x p) (p ∷ []) []
accepted_page x ask_revealed = []
accepted_page x (ask_possible set) = []

-- the list's trace: the pages of the accepted requests, in order
abbrev pub layers_trace : List LayersCall → LayersState → List ℕ
layers_trace [] x = []
layers_trace (call ∷ calls) x = accepted_page x call ++ layers_trace calls (layers_next x call)
