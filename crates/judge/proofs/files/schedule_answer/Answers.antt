use Rattle.std.proofs.Common.{arith}
use Rattle.judge.proofs.FileLaws.{other_k, other_a, first_sound, first_answer}
use Rattle.judge.proofs.files.schedule_answer.Goals as goal
use Rattle.judge.proofs.files.schedule_answer.Goals.{then-k-files-via-then-k-files, then-k-files-via-else-k-files+then-a-files}

pub returns-then-k-files-clause-answer : goal.returns-then-k-files-clause-answer
returns-then-k-files-clause-answer c =
    let w = c.in_ok-k.ensures in
    let own = rw c.in-Sizes.is at w in
    elim c.then-k-files.branch [
      | then-k-files-via-then-k-files w ↦ other_k c.args.files.now _ _ _ own w.if-k-files.true
      | then-k-files-via-else-k-files+then-a-files w ↦ other_a c.args.files.now _ _ _ own (omega arith) w.if-a-files.true
    ]

pub run-requires : goal.run-requires
run-requires c =
    let w = c.in_ok-k.ensures in
    let empty = c.empty.ensures in
    rw empty (first_sound c.args.files.now _ _ _ (rw c.in-Sizes.is at w) c.requires.0 c.requires.1 c.requires.2)

pub returns-else-a-files-clause-answer : goal.returns-else-a-files-clause-answer
returns-else-a-files-clause-answer c =
    let w = c.in_ok-k.ensures in
    let answer = c.run.ensures.answer in
    first_answer c.args.files.now _ _ _ (rw c.in-Sizes.is at w) _ (omega arith) (omega arith) (rw c.empty.ensures at answer)
