use mathlib.Core.List.{map}
use lib.ListN.{take}
use Rattle.paging.specs.Rows.{rows_of}
use Rattle.paging.specs.Table.{number_in}
use Rattle.layers.specs.inner.Sizes.{Tallied}
use Rattle.layers.proofs.questions.tally_set.Given as goal

abbrev pub invariant-loop-page : goal.invariant-loop-page
invariant-loop-page l = Tallied (take l.page-index (map (number_in (rows_of l.numbers l.pages)) l.set)) l.sizes
