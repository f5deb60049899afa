-- `queue::tell` meets its contract: where nothing is refused the state is ready, and what is decided is told.
use Rattle.std.proofs.Common.{sym, arith}
use Rattle.std.proofs.lemmas.List.{length-take}
use Rattle.queue.proofs.Refusals.{ready_of, tell_accepted}
use Rattle.queue.proofs.Served.{told, can_answer}
use Rattle.queue.proofs.tell.Goals as goal

pub slice_bounds-decide-end : goal.slice_bounds-decide-end
slice_bounds-decide-end c =
    let ready = ready_of c.args.run c.args.count c.args.cache.now c.args.evicted.now (sym c.in_ok-check.ensures) in
    simp length-take (omega (arith, ready.count_most, ready.cache_room))

pub evict-requires : goal.evict-requires
evict-requires c =
    let ready = ready_of c.args.run c.args.count c.args.cache.now c.args.evicted.now (sym c.in_ok-check.ensures) in
    (omega (arith, ready.sizes.a_high, ready.cache_room), omega (arith, ready.evicted_room))

pub answered-reply-requires : goal.answered-reply-requires
answered-reply-requires c =
    let run = c.args.run in
    let count = c.args.count in
    let cache = c.args.cache.now in
    let evicted = c.args.evicted.now in
    let ready = ready_of run count cache evicted (sym c.in_ok-check.ensures) in
    can_answer run count cache evicted c.args.page ready _ (omega arith) c.decide-found.ensures

pub returns : goal.returns
returns c =
    let run = c.args.run in
    let count = c.args.count in
    let cache = c.args.cache.now in
    let evicted = c.args.evicted.now in
    let page = c.args.page in
    let none = sym c.in_ok-check.ensures in
    let found = c.decide-found.ensures in
    tell_accepted run count cache evicted page _ _ _ none found
    (told run count cache evicted page (ready_of run count cache evicted none) _ _ _ found c.answered-reply.ensures c.evict.ensures)
