use Rattle.std.proofs.Common.{◌≡◌}
use Rattle.lists.specs.Pages.{mem}
use Rattle.judge.specs.inner.Fetches.{fetched_pages}
use Rattle.judge.proofs.FetchLaws.{behind}
use Rattle.judge.proofs.fetches.fetched.Given as goal

abbrev pub invariant-loop-i : goal.invariant-loop-i
invariant-loop-i l = mem l.page (fetched_pages l.schedule l.from l.count) ≡ mem l.page (behind l.schedule l.from l.count l.i)
