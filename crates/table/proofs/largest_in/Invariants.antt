use Prim.Native.Nat.{max}
use mathlib.Core.Path.{◌≡◌}
use lib.ListN.{drop}
use Rattle.paging.specs.Rows.{rows_of}
use Rattle.paging.specs.Table.{number_in}
use Rattle.table.proofs.largest_in.Given as goal

abbrev pub invariant-loop-i : goal.invariant-loop-i
invariant-loop-i l = max l.best (number_in (drop l.i (rows_of l.numbers l.pages)) l.page) ≡ number_in (rows_of l.numbers l.pages) l.page
