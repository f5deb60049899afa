-- Marking with RDM over a whole lent trace, from the empty buffer and into a lent layer table that is all unused, with t0 beside it.
use Rattle.std.specs.Prelude.{ℕ, Bool, true, not, List, [], ◌∷◌, Result, ◌≡◌, eqb, length}
use Rattle.lists.specs.Choice.{pick, ◌and◌, ◌or◌}
use Rattle.paging.specs.Numbers.{TotalsAnswer, totals_answer}
use Rattle.paging.specs.Refusals.{refuse, trace_refusal}
use Rattle.paging.specs.Rows.{numbers_of, pages_of, table_of}
use Rattle.paging.specs.Table.{nothing_yet, tabled_after}
use Rattle.paging.specs.declared.reasons.Refusal.{Refusal}
use Rattle.layers.specs.Traces.{overflows}
use Rattle.marking.specs.Marking.{mark_bundles, mark_loads}
use Rattle.marking.specs.Rdm.{no_clock, clock_after, rdm}
use Rattle.mark.specs.Lent.{times_of}
use Rattle.paging.specs.declared.outcomes.Totals.{Totals}

-- the layer table and t0 beside it
pub record Table : Type 0 where
  pub pages : List ℕ
  pub numbers : List ℕ
  pub times : List ℕ

abbrev pub table_with : (pages numbers times : List ℕ) → Table
table_with pages numbers times = record { pages = pages; numbers = numbers; times = times }

abbrev pub all_zero : List ℕ → Bool
all_zero [] = true
all_zero (n ∷ ns) = eqb n 0 and all_zero ns

-- the refusals that are judged before the first request, in order: 1, 2, 3, 8 for lists of unequal length, 9 where a place is used; then the rest
unfoldable pub early_refusal : (k a : ℕ) → (trace : List ℕ) → Table → (rest : ℕ) → ℕ
early_refusal k a trace x rest =
    trace_refusal k a trace
    (refuse (not (eqb (length x.numbers) (length x.pages)) or not (eqb (length x.times) (length x.pages))) 8
    (refuse (not (all_zero x.pages and all_zero x.numbers and all_zero x.times)) 9
    rest))

-- and 10 where the table is too small on the way
abbrev pub over_refusal : (k a : ℕ) → (trace : List ℕ) → Table → ℕ
over_refusal k a trace x = early_refusal k a trace x (refuse (overflows k a (length x.pages) trace nothing_yet) 10 0)

abbrev pub refused_totals : (number : ℕ) → TotalsAnswer
refused_totals number = record { refusal = number; bundles = 0; loads = 0 }

-- bundles and loads; a refusal is its number, and zero in every other field
unfoldable pub totals_of : (k a : ℕ) → (trace : List ℕ) → Table → TotalsAnswer
totals_of k a trace x =
    pick (eqb (over_refusal k a trace x) 0)
    (record { refusal = 0; bundles = mark_bundles (rdm k a) k a trace; loads = mark_loads (rdm k a) k a trace })
    (refused_totals (over_refusal k a trace x))

-- the table of the layers after the trace, and t0 beside it
abbrev pub table_after : (k a : ℕ) → (trace : List ℕ) → (places : ℕ) → Table
table_after k a trace places =
    let rows = (tabled_after k a trace nothing_yet).rows in
    table_with (pages_of (table_of places rows)) (numbers_of (table_of places rows)) (times_of places rows (clock_after k a trace no_clock).times)

-- the three lists afterwards; a refusal leaves them as they were lent
unfoldable pub table_over : (k a : ℕ) → (trace : List ℕ) → Table → Table
table_over k a trace x = pick (eqb (over_refusal k a trace x) 0) (table_after k a trace (length x.pages)) x

-- the promise of the call: its answer, and the three lists as it leaves them
abbrev pub OverTrace : (k a : ℕ) → (trace : List ℕ) → Table → Result Totals Refusal → Table → Type 0
OverTrace k a trace x totals left = (totals_answer totals ≡ totals_of k a trace x) × (left ≡ table_over k a trace x)
