use mathlib.Core.Path.{◌≡◌}
use lib.ListN.{length}
use Rattle.paging.specs.Rows.{rows_of}
use Rattle.layers.proofs.TraceLaws.{ServedSoFar}
use Rattle.layers.proofs.trace.serve_all.Given as goal

abbrev pub invariant-loop-page : goal.invariant-loop-page
invariant-loop-page l = (length l.pages ≡ length l.initial.pages) × (length l.numbers ≡ length l.pages) × ServedSoFar l.k l.a
    l.trace (length l.initial.pages) (rows_of l.numbers l.pages) l.s l.joins l.used l.page-index
