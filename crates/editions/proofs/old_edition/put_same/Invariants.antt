-- `put_same` meets its contract: one RQ behind the other.
use Prim.Native.Nat.{◌-◌}
use Rattle.editions.proofs.Written.{WritingSame}
use Rattle.editions.proofs.old_edition.put_same.Given as goal

abbrev pub invariant-loop : goal.invariant-loop
invariant-loop l = WritingSame l.page l.times l.initial.out l.out l.from l.at (l.times - l.counter)
