use mathlib.Core.Path.{◌∙◌}
use lib.Dec.{leb}
use Rattle.std.proofs.Common.{rules, tests}
use Rattle.std.proofs.lemmas.Iterator.{YieldsList-from_slice}
use Rattle.std.proofs.lemmas.Iterator.Search.{all_from_yields_List}
use Rattle.layers.proofs.Reading.{all_low}
use Rattle.layers.proofs.formed.none_above.Goals as goal

pub returns : goal.returns
returns c =
    let numbers = c.args.numbers.now in
    let s = c.args.s in
    all_from_yields_List (λ n. leb n s) _ _ _ c.all.ensures.ran (YieldsList-from_slice numbers cc) (λ x b q k. search (rules, tests))
    ∙ all_low s numbers
