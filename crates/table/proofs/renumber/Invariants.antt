use mathlib.Core.Path.{◌≡◌}
use lib.ListN.{length}
use Rattle.paging.specs.Rows.{rows_of}
use Rattle.table.proofs.Serving.{Renumbering}
use Rattle.table.proofs.renumber.Given as goal

abbrev pub invariant-loop-from : goal.invariant-loop-from
invariant-loop-from l =
    (length l.pages ≡ length l.initial.pages) × (length l.numbers ≡ length l.initial.numbers) ×
    Renumbering l.change (rows_of l.initial.numbers l.initial.pages) (rows_of l.numbers l.pages) l.to l.from
