-- `queue::serving::step` meets its contract: what is decided is what is then served.
use Rattle.queue.proofs.Served.{acted}
use Rattle.queue.proofs.serving.step.Goals as goal

pub returns : goal.returns
returns c =
    acted c.args.run c.args.count c.args.cache.now c.args.evicted.now c.args.page c.requires c.args.keeping _ _ _ _
    c.decide-found.ensures c.answered.ensures c.settle.ensures c.evict.ensures
