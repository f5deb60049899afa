use mathlib.Core.Bool.{not}
use mathlib.Core.Path.{◌≡◌}
use lib.ListN.{drop}
use Rattle.lists.specs.Choice.{◌and◌}
use Rattle.mark.specs.Formed.{times_formed}
use Rattle.mark.proofs.refusing.times_formed.Given as goal

abbrev pub invariant-loop-i : goal.invariant-loop-i
invariant-loop-i l = times_formed l.t l.numbers l.times ≡ not l.bad and times_formed l.t (drop l.i l.numbers) (drop l.i l.times)
