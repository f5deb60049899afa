use Rattle.editions.proofs.Taking.{taken_before, more_there, run_last, run_other, run_full, run_grows}
use Rattle.editions.proofs.runs.next_run.Goals as goal

pub next_record-more-requires : goal.next_record-more-requires
next_record-more-requires c =
    let inv = c.loop-times.invariant in
    (inv.begun.started, more_there _ _ _ _ _ _ inv c.loop-times-test.true)

pub returns-then-more-page : goal.returns-then-more-page
returns-then-more-page c =
    let begun = c.begun-first in
    let inv = c.loop-times.invariant in
    let more = c.next_record-more in
    taken_before c.args.file.now c.args.left c.args.n c.requires.0 begun.result begun.ensures.same _ _ _
    (run_other _ _ _ _ _ _ inv more.result more.ensures c.if-more-page.true)

pub returns-then-all-gt-LONGEST : goal.returns-then-all-gt-LONGEST
returns-then-all-gt-LONGEST c =
    let begun = c.begun-first in
    let inv = c.loop-times.invariant in
    let more = c.next_record-more in
    taken_before c.args.file.now c.args.left c.args.n c.requires.0 begun.result begun.ensures.same _ _ _
    (run_full _ _ _ _ _ _ inv more.result more.ensures c.if-more-page.false c.if-all-gt-LONGEST.true)

pub loop-times-preserved : goal.loop-times-preserved
loop-times-preserved c =
    let inv = c.loop-times.invariant in
    let more = c.next_record-more in
    run_grows _ _ _ _ _ _ inv more.result more.ensures c.if-more-page.false c.if-all-gt-LONGEST.false

pub returns : goal.returns
returns c =
    let begun = c.begun-first in
    taken_before c.args.file.now c.args.left c.args.n c.requires.0 begun.result begun.ensures.same _ _ _
    (run_last _ _ _ _ _ _ c.loop-times.invariant c.loop-times-test.false)
