-- `mark_request` meets its contract: the fields of the answer are stored, and lent lists are as the call leaves them.
use Rattle.exports.proofs.Stored.{stored}
use Rattle.exports.specs.Fields.{mark_reply_fields}
use Rattle.exports.proofs.mark_calls.mark_request.Goals as goal

pub returns : goal.returns
returns c =
    let call = c.request-reply in (
      stored mark_reply_fields c.args.out.now c.copy.ensures c.reply_fields-all.ensures call.ensures.0,
      call.ensures.1,
    )
