use native.Mathlib.Omega.{arith}
use Rattle.keys.proofs.Sorting.{at_below}
use mathlib.Core.Path.{sym, ◌∙◌}
use Rattle.records.proofs.Lengths.{length_of_some}
use Rattle.min.proofs.Model.{best_counted, loads_counted}
use Rattle.min.proofs.Refused.{scheduled_few, scheduled_whole}
use Rattle.min.proofs.Written.{best_few, schedule_length_is, evs_fit, schedule_placed}
use Rattle.min.proofs.write.scheduled.Goals as goal

pub schedule_length-size-requires : goal.schedule_length-size-requires
schedule_length-size-requires c =
    let pre = c.requires in
    let over = c.over-pass.ensures in
    let counts = c.counts-all in
    let pages = at_below {n = 4294967296} c.args.trace.now (λ i h. omega (arith, c.type_inv.trace i)) in
    let best = best_counted over pages counts.result.bundles counts.ensures.0 in
    (omega (arith, pre.sizes.a_high, pre.sizes.k_high), omega (arith, best, best_few c.args.k c.args.a pages, pre.short))

pub put_bundles-requires : goal.put_bundles-requires
put_bundles-requires c =
    let a = c.args.a in
    let k = c.args.k in
    let out = c.args.out.now in
    let trace = c.args.trace.now in
    let pre = c.requires in
    let over = c.over-pass.ensures in
    let counts = c.counts-all in
    let schedule-length = c.schedule_length-size in
    let ka = c.ka in
    let from = c.unwrap-from in
    let pages = at_below {n = 4294967296} trace (λ i h. omega (arith, c.type_inv.trace i)) in
    let best = best_counted over pages counts.result.bundles counts.ensures.0 in
    let size = schedule_length_is k a schedule-length.result counts.result.bundles trace pre.sizes.a_high schedule-length.ensures best in
    rw (over.0, over.1.0, over.1.1)
    (evs_fit k a from.result trace out ka.new.rest ka.new.rest pages (omega arith) (length_of_some from.result _ (sym from.ensures ∙ ka.ensures.0)) ka.ensures.1)

pub returns : goal.returns
returns c =
    let a = c.args.a in
    let k = c.args.k in
    let out = c.args.out.now in
    let trace = c.args.trace.now in
    let pre = c.requires in
    let over = c.over-pass.ensures in
    let counts = c.counts-all in
    let schedule-length = c.schedule_length-size in
    let ka = c.ka in
    let from = c.unwrap-from in
    let put-bundles = c.put_bundles in
    let pages = at_below {n = 4294967296} trace (λ i h. omega (arith, c.type_inv.trace i)) in
    let best = best_counted over pages counts.result.bundles counts.ensures.0 in
    let size = schedule_length_is k a schedule-length.result counts.result.bundles trace pre.sizes.a_high schedule-length.ensures best in
    scheduled_whole k a counts.result.bundles counts.result.loads schedule-length.result trace out put-bundles.new.out
    best (loads_counted over pages counts.result.loads counts.ensures.1) size (omega arith)
    (schedule_placed k a from.result trace out ka.new.rest put-bundles.new.out pages (omega arith) (length_of_some from.result _ (sym from.ensures ∙ ka.ensures.0)) ka.ensures.1
    (rw (over.0, over.1.0, over.1.1) at put-bundles.ensures))

pub returns-then-out-size : goal.returns-then-out-size
returns-then-out-size c =
    let a = c.args.a in
    let k = c.args.k in
    let trace = c.args.trace.now in
    let pages = at_below {n = 4294967296} trace (λ i h. omega (arith, c.type_inv.trace i)) in
    let best = best_counted c.over-pass.ensures pages c.counts-all.result.bundles c.counts-all.ensures.0 in
    let size = schedule_length_is k a c.schedule_length-size.result c.counts-all.result.bundles trace c.requires.sizes.a_high c.schedule_length-size.ensures best in
    scheduled_few k a trace c.args.out.now (omega (arith, size, c.if-out-size.true))
