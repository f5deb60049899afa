-- What a caller may count on who asks whether a set is possible (document 02, request 06), in every state, sound or not. Each field takes the promise of
-- `layers::possible` as it stands.
use Rattle.std.specs.Prelude.{ℕ, ◌<◌, List, Result, Ok, ◌↔◌, ◌≡◌, length}
use Rattle.paging.specs.Layers.{BreaksFirstAt}
use Rattle.paging.specs.Rows.{rows_of}
use Rattle.paging.specs.declared.reasons.Refusal.{Refusal}
use Rattle.layers.specs.Questions.{layers_in, verdict_of, possible_refusal, verdict}
use Rattle.layers.specs.declared.LayersRun.{LayersRun}
use Rattle.layers.specs.declared.PossibleAnswer.{PossibleAnswer}
use Rattle.layers.specs.declared.PossibleAnswer.TheVariants.{BrokenAt}

pub record LowestLayerTold (run : LayersRun) (pages numbers set : List ℕ) : Type 0 where
  -- "the smallest i at which the set has more than i pages from L0 to Li", "'count differs' is still looked at before it": a layer is named exactly if
  -- nothing is refused, the set has s pages, the rule breaks at the layer and at none below it
  pub named_exactly : (r : Result PossibleAnswer Refusal) → verdict_of r ≡ verdict run pages numbers set → (i : ℕ)
      → (r ≡ Ok (BrokenAt i))
      ↔ ((possible_refusal run pages numbers set ≡ 0) × (length set ≡ run.s) × BreaksFirstAt (layers_in run (rows_of numbers pages)) set i)
  -- such a layer is below s: of s pages no more than s are in L0 to Ls
  pub below_s : (r : Result PossibleAnswer Refusal) → verdict_of r ≡ verdict run pages numbers set → (i : ℕ) → r ≡ Ok (BrokenAt i) → i < run.s
  -- "nothing in this answer is then left free": two answers that keep the promise are the same
  pub nothing_left_free : (r r' : Result PossibleAnswer Refusal) → verdict_of r ≡ verdict run pages numbers set → verdict_of r' ≡ verdict run pages numbers set → r ≡ r'
