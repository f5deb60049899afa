-- `layers::formed::well_formed` meets its contract: the counts and the table together.
use mathlib.Core.Path.{sym, ◌∙◌}
use Rattle.layers.proofs.WellFormed.{well_by_table, ill_by_counts}
use Rattle.layers.proofs.formed.well_formed.Goals as goal

pub returns-then-counts_formed : goal.returns-then-counts_formed
returns-then-counts_formed c = c.table_formed.ensures ∙ well_by_table c.args.run _ (sym c.counts_formed.ensures ∙ c.if-counts_formed.true)

pub returns-else-counts_formed : goal.returns-else-counts_formed
returns-else-counts_formed c = c.if-counts_formed.false ∙ ill_by_counts c.args.run _ (sym c.counts_formed.ensures ∙ c.if-counts_formed.false)
