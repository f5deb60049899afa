-- `lists::find` meets its contract: the pages looked at are not the page.
use Rattle.std.proofs.Common.{◌≡◌, ◌+◌, drop}
use Rattle.lists.specs.Places.{place}
use Rattle.lists.proofs.find.Given as goal

abbrev pub invariant-loop-i : goal.invariant-loop-i
invariant-loop-i l = place l.page l.pages ≡ (l.passed + l.i) + place l.page (drop (l.passed + l.i) l.pages)
