-- `layers::formed::counts_formed` meets its contract: the sum of 64 bits is the sum of the numbers.
use native.Mathlib.Omega.{arith}
use mathlib.Core.Path.{◌∙◌}
use borrow.Author.Tests.{ne_eqb}
use Rattle.layers.proofs.WellFormed.{counts_apart, counts_joins}
use Rattle.layers.proofs.formed.counts_formed.Goals as goal

pub returns-then-sum-from : goal.returns-then-sum-from
returns-then-sum-from c = counts_joins c.args.run (omega arith)

pub returns-else-sum-from : goal.returns-else-sum-from
returns-else-sum-from c =
    let apart = c.if-sum-from.false in
    ne_eqb _ _ apart ∙ counts_apart c.args.run (λ e. apart (omega arith))
