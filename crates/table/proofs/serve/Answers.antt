use native.Mathlib.Omega.{arith}
use mathlib.Core.Path.{◌∙◌}
use lib.Seq.{length-take-le}
use Rattle.paging.specs.Rows.{rows_of}
use Rattle.table.specs.Serving.{moved}
use Rattle.table.proofs.Serving.{serve_end}
use Rattle.table.proofs.serve.Goals as goal

pub returns : goal.returns
returns c =
    let sort = c.sort in
    let renumber = c.renumber-n in
    let args = c.args in
    let put-row = c.put_row in
    serve_end (moved args.change (rows_of args.numbers.now args.pages.now)) renumber.new.numbers renumber.new.pages
    sort.new.numbers sort.new.pages _ renumber.result _ _ _ (omega arith) renumber.ensures.0 (omega arith) renumber.ensures.1
    (sort.auto.pages ∙ length-take-le renumber.result renumber.new.pages (omega arith))
    (sort.auto.numbers ∙ length-take-le renumber.result renumber.new.numbers (omega arith)) sort.ensures put-row.ensures
