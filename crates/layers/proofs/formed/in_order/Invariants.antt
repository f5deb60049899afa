use Prim.Native.Nat.{◌-◌}
use mathlib.Core.Path.{◌≡◌}
use lib.ListN.{drop, get_or}
use Rattle.paging.specs.Rows.{row_at, rows_of}
use Rattle.layers.specs.Formed.{ordered, ordered_behind}
use Rattle.layers.proofs.formed.in_order.Given as goal

abbrev pub invariant-loop-i : goal.invariant-loop-i
invariant-loop-i l =
    ordered (rows_of l.numbers l.pages) ≡ ordered_behind (row_at (get_or l.numbers (l.i - 1) 0) (get_or l.pages (l.i - 1) 0)) (drop l.i (rows_of l.numbers l.pages))
