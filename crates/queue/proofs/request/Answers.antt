-- `queue::request` meets its contract: told, and where it is not refused, settled in the cache list.
use Rattle.std.proofs.Common.{◌≡◌, ◌∙◌, ap, Err}
use Rattle.std.proofs.lemmas.Result.{err_from_is_err_and}
use Rattle.queue.proofs.Refusals.{ready_of, request_refused, request_settled}
use Rattle.queue.proofs.Served.{can_settle}
use Rattle.queue.proofs.request.Goals as goal

pub returns-in_err-reply : goal.returns-in_err-reply
returns-in_err-reply c =
    let run = c.args.run in
    let count = c.args.count in
    let cache = c.args.cache.now in
    let evicted = c.args.evicted.now in
    let told = c.in_err-reply.ensures in
    let r = err_from_is_err_and c.from_residual.result c.from_residual.ensures.1 in
    let e : c.from_residual.result ≡ Err c.in_err-reply.field-0.0 = r.1 ∙ ap Err r.2 in
    rw e (request_refused run count cache evicted c.args.page c.args.keeping _ _ told.0 told.1)

pub settle-requires : goal.settle-requires
settle-requires c =
    let run = c.args.run in
    let count = c.args.count in
    let cache = c.args.cache.now in
    let evicted = c.args.evicted.now in
    let told = c.in_ok-reply.ensures in
    can_settle run count cache evicted c.args.page (ready_of run count cache evicted told.1.0) _ told.1.1

pub returns : goal.returns
returns c =
    let run = c.args.run in
    let count = c.args.count in
    let cache = c.args.cache.now in
    let evicted = c.args.evicted.now in
    let told = c.in_ok-reply.ensures in
    request_settled run count cache evicted c.args.page c.args.keeping _ _ told.0 _ _ told.1.0 told.1.1 c.settle.ensures
