-- `lists::parts_without` meets its contract: the parts looked at do not have the page.
use Rattle.std.proofs.Common.{◌≡◌, ◌+◌, ◌*◌, drop}
use Rattle.lists.specs.Places.{place}
use Rattle.lists.proofs.parts_without.Given as goal

abbrev pub invariant-loop-part : goal.invariant-loop-part
invariant-loop-part l = place l.page l.pages ≡ l.part * 32 + place l.page (drop (l.part * 32) l.pages)
