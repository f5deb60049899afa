-- The questions on the layers (document 01, "Layers" for revealed pages, "Possible set"). A question changes nothing and counts no
-- request, so it judges neither 12 nor 10.
use Rattle.std.specs.Prelude.{ℕ, ◌-◌, not, List, Result, Ok, Err, IfOk, ◌≡◌, eqb, ltb, length, drop}
use Rattle.lists.specs.Choice.{pick}
use Rattle.lists.specs.Pages.{distinct, filter}
use Rattle.lists.specs.Sorting.{Row}
use Rattle.paging.specs.Layers.{Layers, holds_up_to, lowest_broken}
use Rattle.paging.specs.Numbers.{number_of}
use Rattle.paging.specs.Refusals.{refuse}
use Rattle.paging.specs.Rows.{rows_of, used_rows}
use Rattle.paging.specs.Table.{number_in, revealed}
use Rattle.paging.specs.declared.reasons.Refusal.{Refusal}
use Rattle.layers.specs.Calls.{state_refusal}
use Rattle.layers.specs.declared.LayersRun.{LayersRun}
use Rattle.layers.specs.declared.PossibleAnswer.{PossibleAnswer}
use Rattle.layers.specs.declared.PossibleAnswer.TheVariants.{Yes, CountDiffers, BrokenAt}

-- Revealed pages

-- how many pages are revealed, or a refusal's number beside zero
pub record RevealedAnswer : Type 0 where
  pub refusal : ℕ
  pub count : ℕ

-- how many pages are revealed, or a refusal with zero beside it
unfoldable pub revealed_reply : LayersRun → (pages numbers : List ℕ) → RevealedAnswer
revealed_reply run pages numbers =
    let number = state_refusal run pages numbers 0 in
    pick (eqb number 0)
    (record { refusal = 0; count = revealed run.s (used_rows (rows_of numbers pages)) })
    (record { refusal = number; count = 0 })

-- what the code's answer says
abbrev pub revealed_answer : Result ℕ Refusal → RevealedAnswer
revealed_answer (Ok shown) = record { refusal = 0; count = shown }
revealed_answer (Err reason) = record { refusal = number_of reason; count = 0 }

-- the rows of the last `count` layers of 1 to s
abbrev pub top_rows : (s count : ℕ) → List Row → List Row
top_rows s count rows = filter (λ row. ltb (s - count) row.number) rows

-- the last `count` used places
abbrev pub last_used : (count : ℕ) → List Row → List Row
last_used count rows = drop (length (used_rows rows) - count) (used_rows rows)

-- the promise of the question: the answer, and that the pages of the revealed layers are the last so many used places
pub record RevealedTold (run : LayersRun) (pages numbers : List ℕ) (r : Result ℕ Refusal) : Type 0 where
  pub reply : revealed_answer r ≡ revealed_reply run pages numbers
  pub places : IfOk r (λ shown. last_used shown (rows_of numbers pages) ≡ top_rows run.s shown (used_rows (rows_of numbers pages)))

-- Possible sets

-- the layers that a record and a table hold, as a map
abbrev pub layers_in : LayersRun → List Row → Layers
layers_in run rows = record { of = number_in (used_rows rows); top = run.s }

-- the answers that documents 01 and 02 name: a refusal's number, "yes", "count differs", or the smallest layer at which the rule breaks
pub data Verdict : Type 0 where
  refused_with : (number : ℕ) → Verdict
  possible_set : Verdict
  count_differs : Verdict
  broken_at : (layer : ℕ) → Verdict

-- what each case of the code's answer says
abbrev pub verdict_of : Result PossibleAnswer Refusal → Verdict
verdict_of (Ok Yes) = possible_set
verdict_of (Ok CountDiffers) = count_differs
verdict_of (Ok (BrokenAt i)) = broken_at i
verdict_of (Err reason) = refused_with (number_of reason)

-- the verdict on a set that is not refused: the count is looked at first, and a "no" on a set of s pages names the smallest layer at which the
-- rule breaks (document 02, request 06)
abbrev pub judged : Layers → (set : List ℕ) → Verdict
judged L set =
    pick (eqb (length set) L.top)
    (pick (holds_up_to L set L.top) possible_set (broken_at (lowest_broken L set L.top)))
    count_differs

-- the refusals of the question, in order; 11 where the set names a page twice
unfoldable pub possible_refusal : LayersRun → (pages numbers set : List ℕ) → ℕ
possible_refusal run pages numbers set = state_refusal run pages numbers (refuse (not (distinct set)) 11 0)

-- what the question answers
unfoldable pub verdict : LayersRun → (pages numbers set : List ℕ) → Verdict
verdict run pages numbers set =
    let number = possible_refusal run pages numbers set in
    pick (eqb number 0) (judged (layers_in run (rows_of numbers pages)) set) (refused_with number)
