use Rattle.std.proofs.Common.{arith, length-append}
use Rattle.judge.proofs.ClosingLaws.{open_over}
use Rattle.judge.proofs.FetchLaws.{length_fetched}
use Rattle.judge.proofs.closing.close_open.Goals as goal

pub returns-then-place-files-clause-closes : goal.returns-then-place-files-clause-closes
returns-then-place-files-clause-closes c =
    let s = c.requires.0 in
    let r = s.room in
    open_over _ _ _ _ _ _ _ s.room (omega arith) c.requires.1 c.requires.2

pub close-requires : goal.close-requires
close-requires c =
    let s = c.requires.0 in
    let r = s.room in
    let m = c.if-place-files.false in
    (s.started, c.requires.2, rw (c.settle.ensures, length-append, length_fetched) (omega arith), s.size)
