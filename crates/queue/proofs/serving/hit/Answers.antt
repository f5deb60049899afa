-- `queue::serving::hit` meets its contract: the page moved to the end of the pages held, then zeros up to k.
use native.Mathlib.Omega.{arith}
use lib.ListN.{length-take}
use Rattle.queue.proofs.Laying.{hit_laid}
use Rattle.queue.proofs.serving.hit.Goals as goal

pub slice_bounds-to_end-end-2 : goal.slice_bounds-to_end-end-2
slice_bounds-to_end-end-2 c = simp length-take (omega arith)

pub returns : goal.returns
returns c =
    let offset = c.args.at in
    let cache = c.args.cache.now in
    let k = c.args.k in
    let n = c.args.n in
    let to-end = c.to_end in
    let fill-zero = c.fill_zero in
    hit_laid n k offset cache _ _ (omega arith) (omega arith) to-end.ensures fill-zero.ensures
