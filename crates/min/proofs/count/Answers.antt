use native.Mathlib.Omega.{arith}
use borrow.Author.Rules.{rules}
use Rattle.keys.proofs.Sorting.{at_below}
use Rattle.min.proofs.Model.{best_counted, loads_counted}
use Rattle.min.proofs.Refused.{accepted, counts_served}
use Rattle.min.proofs.count.Goals as goal

pub over-pass-requires : goal.over-pass-requires
over-pass-requires c =
    accepted c.args.k c.args.a c.args.trace.now _ c.in_ok-check_trace.ensures (search rules)

pub returns : goal.returns
returns c =
    let over = c.over-pass.ensures in
    let counts = c.counts in
    let pages = at_below {n = 4294967296} c.args.trace.now (λ i h. omega (arith, c.type_inv.trace i)) in
    counts_served c.args.k c.args.a c.args.trace.now counts.result c.in_ok-check_trace.ensures
    (best_counted over pages counts.result.bundles counts.ensures.0) (loads_counted over pages counts.result.loads counts.ensures.1)
