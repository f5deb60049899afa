-- The layers over a whole lent trace, into a lent table that is all unused.
use Rattle.std.specs.Prelude.{ℕ, Bool, true, false, not, List, [], ◌∷◌, Result, Ok, Err, eqb, ltb, length}
use Rattle.lists.specs.Choice.{pick, ◌and◌, ◌or◌}
use Rattle.lists.specs.Sorting.{Row}
use Rattle.paging.specs.Numbers.{number_of}
use Rattle.paging.specs.Refusals.{refuse, trace_refusal}
use Rattle.paging.specs.Rows.{rows_of, numbers_of, pages_of, table_of}
use Rattle.paging.specs.Table.{revealed, Tabled, nothing_yet, tabled_next, tabled_after}
use Rattle.paging.specs.declared.reasons.Refusal.{Refusal}
use Rattle.layers.specs.Formed.{is_unused}
use Rattle.layers.specs.declared.LayersTotals.{LayersTotals}

-- after some request there are more pages than the table has places
abbrev pub overflows : (k a places : ℕ) → (trace : List ℕ) → Tabled → Bool
overflows k a places [] T = false
overflows k a places (p ∷ ps) T =
    ltb places (length (tabled_next k a p T).rows) or overflows k a places ps (tabled_next k a p T)

abbrev pub all_unused : List Row → Bool
all_unused [] = true
all_unused (row ∷ rows) = is_unused row and all_unused rows

-- the refusals that are judged before the first request, in order: 1, 2, 3, 8, 9 where the table is not all unused; then the rest
unfoldable pub early_refusal : (k a : ℕ) → (trace pages numbers : List ℕ) → ℕ → ℕ
early_refusal k a trace pages numbers rest =
    trace_refusal k a trace
    (refuse (not (eqb (length pages) (length numbers))) 8
    (refuse (not (all_unused (rows_of numbers pages))) 9
    rest))

-- and 10 where the table is too small on the way
abbrev pub over_refusal : (k a : ℕ) → (trace pages numbers : List ℕ) → ℕ
over_refusal k a trace pages numbers =
    early_refusal k a trace pages numbers (refuse (overflows k a (length pages) trace nothing_yet) 10 0)

-- what the call answers: bundles, s and revealed pages, or a refusal's number beside zeros
pub record LayersTotalsAnswer : Type 0 where
  pub refusal : ℕ
  pub bundles : ℕ
  pub s : ℕ
  pub revealed : ℕ

abbrev pub refused_totals : (number : ℕ) → LayersTotalsAnswer
refused_totals number = record { refusal = number; bundles = 0; s = 0; revealed = 0 }

-- bundles, s and revealed pages after the trace; a refusal is its number, and zero in every other field
unfoldable pub trace_totals : (k a : ℕ) → (trace pages numbers : List ℕ) → LayersTotalsAnswer
trace_totals k a trace pages numbers =
    let number = over_refusal k a trace pages numbers in
    let T = tabled_after k a trace nothing_yet in
    pick (eqb number 0)
    (record { refusal = 0; bundles = T.joins; s = T.s; revealed = revealed T.s T.rows })
    (refused_totals number)

-- what the code's answer says
abbrev pub layers_totals_answer : Result LayersTotals Refusal → LayersTotalsAnswer
layers_totals_answer (Ok t) = record { refusal = 0; bundles = t.bundles; s = t.s; revealed = t.revealed }
layers_totals_answer (Err reason) = refused_totals (number_of reason)

-- both lists afterwards: the table holds the layers of the trace; a refusal leaves the lists as they were lent
unfoldable pub pages_over : (k a : ℕ) → (trace pages numbers : List ℕ) → List ℕ
pages_over k a trace pages numbers =
    pick (eqb (over_refusal k a trace pages numbers) 0)
    (pages_of (table_of (length pages) (tabled_after k a trace nothing_yet).rows))
    pages

unfoldable pub numbers_over : (k a : ℕ) → (trace pages numbers : List ℕ) → List ℕ
numbers_over k a trace pages numbers =
    pick (eqb (over_refusal k a trace pages numbers) 0)
    (numbers_of (table_of (length pages) (tabled_after k a trace nothing_yet).rows))
    numbers
