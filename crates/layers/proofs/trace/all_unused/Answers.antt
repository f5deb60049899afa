use mathlib.Core.Bool.{◌&&◌}
use mathlib.Core.Path.{◌∙◌}
use lib.Dec.{eqb}
use Rattle.std.proofs.Common.{rules, tests}
use Rattle.std.proofs.lemmas.Iterator.{YieldsList-from_slice, YieldsList-from_zip}
use Rattle.std.proofs.lemmas.Iterator.Search.{all_from_yields_List}
use Rattle.layers.proofs.TraceLaws.{blank_places}
use Rattle.layers.proofs.trace.all_unused.Goals as goal

pub returns : goal.returns
returns c =
    let numbers = c.args.numbers.now in
    let pages = c.args.pages.now in
    all_from_yields_List (λ x. eqb x.0 0 && eqb x.1 0) c.all.new.self _ _ c.all.ensures.ran
    (YieldsList-from_zip (YieldsList-from_slice numbers cc) (YieldsList-from_slice pages cc)) (λ x b q k. search (rules, tests))
    ∙ blank_places numbers pages
