-- "Well formed" for the layers (document 01, and document 02, request 02): refusal 9 is given exactly where this does not hold.
use Rattle.std.specs.Prelude.{ℕ, zero, suc, ◌+◌, ◌-◌, Bool, true, List, [], ◌∷◌, eqb, leb, ltb}
use Rattle.lists.specs.Choice.{◌and◌, ◌or◌}
use Rattle.lists.specs.Pages.{count, distinct}
use Rattle.lists.specs.Sorting.{Row, row_before}
use Rattle.paging.specs.Rows.{pages_of, used_rows}
use Rattle.paging.specs.Table.{above_zero, size_of}
use Rattle.layers.specs.declared.LayersRun.{LayersRun}

unfoldable pub is_unused : Row → Bool
is_unused row = eqb row.number 0 and eqb row.page 0

-- y may stand right behind x: unused places come after all used ones, and used ones rise by number and then by page
unfoldable pub follows : (x y : Row) → Bool
follows x y = is_unused y or (above_zero x and row_before x y)

abbrev pub ordered_behind : Row → List Row → Bool
ordered_behind x [] = true
ordered_behind x (y ∷ ys) = follows x y and ordered_behind y ys

-- the table is ordered: each place is used or holds two zeros, and each may stand behind the one before it
abbrev pub ordered : List Row → Bool
ordered [] = true
ordered (x ∷ xs) = (is_unused x or above_zero x) and ordered_behind x xs

-- layers 1 to s are all present
abbrev pub present : (s : ℕ) → List Row → Bool
present zero rows = true
present (suc i) rows = ltb 0 (size_of (suc i) rows) and present i rows

-- no layer is higher than s
abbrev pub none_above : (s : ℕ) → List Row → Bool
none_above s rows = eqb (count (λ row. ltb s row.number) rows) 0

-- of the layers 1 to s, each that is above the limit has no second page
abbrev pub single_above : (limit s : ℕ) → List Row → Bool
single_above limit zero rows = true
single_above limit (suc i) rows = (leb (suc i) limit or leb (size_of (suc i) rows) 1) and single_above limit i rows

-- what document 01 asks of the record and the table
unfoldable pub table_formed : LayersRun → List Row → Bool
table_formed run rows =
    leb run.evictions run.requests
    and distinct (pages_of (used_rows rows))
    and ordered rows
    and present run.s rows
    and none_above run.s rows
    and leb run.s run.k
    and single_above (run.k - run.a) run.s rows
    and (ltb (run.k - run.a) run.s or single_above 0 run.s rows)

-- what document 02's request 02 asks of the record: its three counts add up to its requests, and the second equals its evictions
unfoldable pub counts_formed : LayersRun → Bool
counts_formed run = eqb (run.appends + run.joins + run.lifts) run.requests and eqb run.joins run.evictions

-- well formed: both
unfoldable pub layers_well_formed : LayersRun → List Row → Bool
layers_well_formed run rows = counts_formed run and table_formed run rows
