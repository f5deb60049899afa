use native.Mathlib.Omega.{arith}
use mathlib.Core.List.{map}
use mathlib.Core.Path.{sym, ◌∙◌}
use Rattle.paging.specs.Rows.{rows_of}
use Rattle.paging.specs.Table.{number_in}
use Rattle.layers.proofs.Asking.{map_get, map_in}
use Rattle.layers.proofs.Reading.{tally_start, tally_low, tally_one, tally_skip}
use Rattle.layers.proofs.questions.tally_set.Goals as goal
use Rattle.layers.proofs.questions.tally_set.Goals.{then-n-lt-NUMBERS, else-n-lt-NUMBERS}

pub loop-page-init : goal.loop-page-init
loop-page-init c = tally_start (map (number_in (rows_of c.args.numbers.now c.args.pages.now)) c.args.set.now)

pub overflow_add-sizes : goal.overflow_add-sizes
overflow_add-sizes c =
    let set = c.args.set.now in
    let loop = c.loop-page in
    let f = number_in (rows_of c.args.numbers.now c.args.pages.now) in
    let at = map_get f set loop.page-index c.loop-page-test.true in
    let low = tally_low (map f set) loop.sizes loop.page-index _ (map_in f set loop.page-index c.loop-page-test.true) loop.invariant
    (c.number_in-n.ensures ∙ sym at) c.if-n-lt-NUMBERS.true in
    omega arith

pub loop-page-preserved : goal.loop-page-preserved
loop-page-preserved c =
    let set = c.args.set.now in
    let loop = c.loop-page in
    let f = number_in (rows_of c.args.numbers.now c.args.pages.now) in
    let at = map_get f set loop.page-index c.loop-page-test.true in
    let within = map_in f set loop.page-index c.loop-page-test.true in
    elim c.if-n-lt-NUMBERS.branch [
      | then-n-lt-NUMBERS w ↦ rw w.sizes-is (tally_one (map f set) loop.sizes loop.page-index _ within loop.invariant (c.number_in-n.ensures ∙ sym at) w.if-n-lt-NUMBERS.true)
      | else-n-lt-NUMBERS w ↦ rw w.sizes-is (tally_skip (map f set) loop.sizes loop.page-index _ within loop.invariant (c.number_in-n.ensures ∙ sym at) w.if-n-lt-NUMBERS.false)
    ]
