use Rattle.std.proofs.lemmas.Result.{err_from_is_err_and}
use Rattle.judge.proofs.FileLaws.{barred_trace, whole_trace, trace_judged}
use Rattle.judge.proofs.files.answer.Goals as goal

pub returns-in_err-told-clause-answer : goal.returns-in_err-told-clause-answer
returns-in_err-told-clause-answer c =
    let p = err_from_is_err_and c.from_residual.result c.from_residual.ensures.1 in
    rw (p.1, p.2) (barred_trace _ _ _ c.in_err-told.ensures)

pub schedule_answer-requires : goal.schedule_answer-requires
schedule_answer-requires c = whole_trace _ c.args.schedule.now _ c.in_ok-told.ensures

pub returns-clause-answer : goal.returns-clause-answer
returns-clause-answer c = trace_judged _ c.args.schedule.now _ c.in_ok-told.ensures _ c.schedule_answer.ensures.answer
