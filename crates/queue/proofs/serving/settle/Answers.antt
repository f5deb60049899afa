-- `queue::serving::settle` meets its contract: in each case the cache list is as its definition says.
use native.Mathlib.Omega.{arith}
use Rattle.queue.proofs.Served.{hit_settled}
use Rattle.queue.proofs.serving.settle.Goals as goal

pub load-requires : goal.load-requires
load-requires c =
    let pre = c.requires in
    let free = pre.free c.in-Room.is in
    (pre.count_most, (pre.cache_room, (omega arith, omega arith)))

pub load-requires-in-Full : goal.load-requires-in-Full
load-requires-in-Full c =
    let pre = c.requires in
    let enough = pre.enough c.in-Full.is in
    (pre.count_most, (pre.cache_room, (enough.1, omega (arith, enough.0, enough.1, pre.count_most))))

pub returns-in-Held : goal.returns-in-Held
returns-in-Held c =
    let keeping = c.args.keeping in
    let n = c.args.n in
    let k = c.args.k in
    let a = c.args.a in
    let page = c.args.page in
    let cache = c.args.cache.now in
    let moved-from = c.moved_from in
    let hit = c.hit in
    hit_settled keeping _ _ _ n k a page cache _ c.in-Held.is moved-from.ensures hit.ensures

pub returns-in-Room : goal.returns-in-Room
returns-in-Room c =
    let load = c.load in
    rw c.in-Room.is load.ensures

pub returns-in-Full : goal.returns-in-Full
returns-in-Full c =
    let load2 = c.load-in-Full in
    rw c.in-Full.is load2.ensures
