-- `queue::serving::run_over` meets its contract: after each turn the state stands for the requests so far.
use mathlib.Core.Path.{◌≡◌}
use lib.ListN.{length, take}
use Rattle.queue.specs.Standing.{Stands}
use Rattle.queue.proofs.serving.run_over.Given as goal

abbrev pub invariant-loop-page : goal.invariant-loop-page
invariant-loop-page l =
    (length l.cache ≡ 256) × ((length l.evicted ≡ 256) × Stands l.keeping l.k l.a (take l.page-index l.trace) l.run l.count l.cache)
