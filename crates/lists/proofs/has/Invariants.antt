-- `lists::has` meets its contract: found says whether the page stands in the places looked at.
use Rattle.std.proofs.Common.{◌≡◌, take}
use Rattle.lists.specs.Pages.{mem}
use Rattle.lists.proofs.has.Given as goal

abbrev pub invariant-loop-other : goal.invariant-loop-other
invariant-loop-other l = l.found ≡ mem l.page (take l.other-index l.pages)
