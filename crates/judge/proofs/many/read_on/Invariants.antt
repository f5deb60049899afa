use Rattle.std.proofs.Common.{◌+◌, ◌*◌, ◌-◌, length}
use Rattle.judge.proofs.ManyLaws.{Reads}
use Rattle.judge.proofs.many.read_on.Given as goal

abbrev pub invariant-loop-page : goal.invariant-loop-page
invariant-loop-page l = Reads l.files l.held l.place l.fetches l.marks.bits

abbrev pub decreases-loop-page : goal.decreases-loop-page
decreases-loop-page l = length l.files.schedule.now - (l.place.from + 10 * l.fetches)
