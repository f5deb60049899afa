-- `with_record` meets its contract: another page ends the last run, the same page makes it longer, or a full RR is put before what is left of it.
use Rattle.editions.proofs.MeasureLaws.{added_other, added_same, added_full}
use Rattle.editions.proofs.measure.with_record.Goals as goal

pub returns-then-page-last : goal.returns-then-page-last
returns-then-page-last c =
    let more = c.last_length in
    added_other c.args.last c.args.page c.args.times c.requires.2 c.requires.3 c.requires.0 c.if-page-last.true more.result
    more.ensures

pub returns-then-all-gt-LONGEST : goal.returns-then-all-gt-LONGEST
returns-then-all-gt-LONGEST c =
    let same = c.if-page-last.false in
    added_full c.args.last c.args.page c.args.times c.requires.2 c.requires.3 c.requires.0 same c.if-all-gt-LONGEST.true

pub returns : goal.returns
returns c =
    let same = c.if-page-last.false in
    added_same c.args.last c.args.page c.args.times c.requires.2 c.requires.3 c.requires.0 same c.if-all-gt-LONGEST.false
