-- `queue::serving::evict` meets its contract: a bundle is copied over the front of the evicted list, else nothing changes.
use native.Mathlib.Omega.{arith}
use lib.ListN.{length-take}
use Rattle.queue.proofs.Laying.{bundle_copied}
use Rattle.queue.proofs.serving.evict.Goals as goal

pub slice_bounds-copy-end : goal.slice_bounds-copy-end
slice_bounds-copy-end c =
    simp length-take (omega arith)

pub returns-in-Full : goal.returns-in-Full
returns-in-Full c =
    let a = c.args.a in
    let cache = c.args.cache.now in
    let evicted = c.args.evicted.now in
    let copy = c.copy in
    rw c.in-Full.is (bundle_copied a cache evicted _ (omega arith) (omega arith) copy.ensures)
