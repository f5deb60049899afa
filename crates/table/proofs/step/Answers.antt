use lib.ListN.{length}
use borrow.Author.Rules.{rules}
use Rattle.table.proofs.Serving.{step_full, step_served}
use Rattle.table.proofs.step.Goals as goal

pub returns-then-n-pages : goal.returns-then-n-pages
returns-then-n-pages c =
    let args = c.args in
    let number_in = c.number_in-i in
    let rule-for = c.rule_for-rule in
    let change-for = c.change_for-change in
    let kept = c.kept-n in
    step_full change-for.result rule-for.result args.k args.a number_in.result args.s args.page (length args.pages.now) kept.result
    args.numbers.now args.pages.now c.requires.0 (λ j. search rules) change-for.ensures number_in.ensures rule-for.ensures
    kept.ensures c.if-n-pages.true

pub returns : goal.returns
returns c =
    let args = c.args in
    let number_in = c.number_in-i in
    let rule-for = c.rule_for-rule in
    let change-for = c.change_for-change in
    let kept = c.kept-n in
    let if1 = c.if-n-pages in
    let top-after = c.top_after-top in
    let serve = c.serve in
    step_served change-for.result rule-for.result args.k args.a number_in.result args.s args.page (length args.pages.now) kept.result
    args.numbers.now args.pages.now c.requires.0 (λ j. search rules) change-for.ensures number_in.ensures rule-for.ensures
    kept.ensures _ _ if1.false top-after.ensures serve.ensures
