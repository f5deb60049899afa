use Rattle.std.proofs.Common.{◌≡◌, ◌++◌}
use Rattle.judge.specs.inner.Fetches.{fetched_pages}
use Rattle.judge.proofs.fetches.settle.Given as goal

abbrev pub invariant-loop-i : goal.invariant-loop-i
invariant-loop-i l = l.held ≡ l.initial.held ++ fetched_pages l.schedule l.from l.i
