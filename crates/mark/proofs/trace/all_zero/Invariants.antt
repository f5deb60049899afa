use mathlib.Core.Bool.{not}
use mathlib.Core.Path.{◌≡◌}
use lib.ListN.{drop}
use Rattle.lists.specs.Choice.{◌and◌}
use Rattle.mark.specs.Traces.{all_zero}
use Rattle.mark.proofs.trace.all_zero.Given as goal

abbrev pub invariant-loop-value : goal.invariant-loop-value
invariant-loop-value l = all_zero l.list ≡ not l.used and all_zero (drop l.value-index l.list)
