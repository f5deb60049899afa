use native.Mathlib.Omega.{arith}
use mathlib.Core.Path.{sym, ◌∙◌}
use Rattle.table.proofs.Numbers.{number_none, number_once}
use Rattle.table.proofs.number_in.Goals as goal

pub returns-then-at-pages : goal.returns-then-at-pages
returns-then-at-pages c =
    let numbers = c.args.numbers.now in
    let page = c.args.page in
    let pages = c.args.pages.now in
    let find = c.find-at in
    number_none numbers pages page find.result find.ensures c.if-at-pages.true

pub returns : goal.returns
returns c =
    let numbers = c.args.numbers.now in
    let page = c.args.page in
    let pages = c.args.pages.now in
    let pre = c.requires in
    let find = c.find-at in
    let has = c.has in
    number_once numbers pages page find.result pre find.ensures (omega arith) (sym has.ensures ∙ c.if-has.false)
