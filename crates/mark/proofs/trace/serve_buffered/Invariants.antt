use mathlib.Core.Path.{◌≡◌}
use lib.ListN.{length}
use Rattle.mark.specs.Lent.{lent}
use Rattle.mark.proofs.Tracing.{SoFar}
use Rattle.mark.proofs.trace.serve_buffered.Given as goal

abbrev pub invariant-loop-page : goal.invariant-loop-page
invariant-loop-page l =
    (length l.cache ≡ 256) × (length l.marks ≡ 256) × (length l.priorities ≡ 256) × (length l.evicted ≡ 256)
    × (length l.pages ≡ length l.initial.pages) × (length l.numbers ≡ length l.initial.numbers) × (length l.times ≡ length l.initial.times)
    × SoFar l.k l.a l.trace (length l.initial.pages) l.page-index l.bundles l.loads l.point (lent l.cache l.marks l.priorities l.evicted l.pages l.numbers l.times)
