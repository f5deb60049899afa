use Prim.Native.Nat.{◌≤◌}
use mathlib.Core.Path.{◌≡◌}
use lib.ListN.{length, take}
use Rattle.paging.specs.Rows.{rows_of}
use Rattle.table.specs.Serving.{moved}
use Rattle.table.proofs.kept.Given as goal

abbrev pub invariant-loop-i : goal.invariant-loop-i
invariant-loop-i l = (l.n ≤ l.i) × (l.n ≡ length (moved l.change (take l.i (rows_of l.numbers l.pages))))
