-- `queue::serving::load` meets its contract: the bundle's pages gone, the others moved to the front, the page behind them, then zeros up to k.
use native.Mathlib.Omega.{arith}
use lib.ListN.{length-take}
use Rattle.queue.proofs.Laying.{load_laid}
use Rattle.queue.proofs.serving.load.Goals as goal

pub slice_bounds-drop_first-end-2 : goal.slice_bounds-drop_first-end-2
slice_bounds-drop_first-end-2 c =
    simp length-take (omega arith)

pub returns : goal.returns
returns c =
    let n = c.args.n in
    let k = c.args.k in
    let out = c.args.out in
    let page = c.args.page in
    let cache = c.args.cache.now in
    let drop-first = c.drop_first in
    let fill-zero = c.fill_zero in
    load_laid n k out page cache (omega arith) (omega arith) (omega arith) (omega arith) _ _ drop-first.ensures fill-zero.ensures
