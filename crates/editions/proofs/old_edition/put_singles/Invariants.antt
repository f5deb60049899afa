-- `put_singles` meets its contract: for each record as many RQs as it has requests.
use Prim.Native.Nat.{◌-◌}
use Rattle.editions.proofs.Written.{WritingSingles}
use Rattle.editions.proofs.old_edition.put_singles.Given as goal

abbrev pub invariant-loop-i : goal.invariant-loop-i
invariant-loop-i l = WritingSingles l.file l.n l.initial.out l.out l.from l.at l.i

abbrev pub decreases-loop-i : goal.decreases-loop-i
decreases-loop-i l = l.n - l.i
