use mathlib.Core.Path.{sym}
use Rattle.paging.proofs.Refusals.{sizes_right}
use Rattle.layers.proofs.check_state.Goals as goal

pub well_formed-requires : goal.well_formed-requires
well_formed-requires c =
    let run = c.args.run in
    let r = sizes_right run.k run.a (sym c.in_ok-check.ensures) in
    (c.if-pages-numbers.false, r.a_high, r.k_high)
