use mathlib.Core.Path.{◌≡◌}
use lib.ListN.{length}
use Rattle.mark.specs.Traces.{table_with}
use Rattle.mark.proofs.WholeBundles.{Unkept}
use Rattle.mark.proofs.trace.serve_whole_bundles.Given as goal

abbrev pub invariant-loop-page : goal.invariant-loop-page
invariant-loop-page l =
    (length l.pages ≡ length l.initial.pages) × (length l.numbers ≡ length l.initial.numbers) × (length l.times ≡ length l.initial.times)
    × Unkept l.k l.trace (length l.initial.pages) l.page-index l.bundles l.loads l.point (table_with l.pages l.numbers l.times)
