-- `figures::of` meets its contract: the sizes are right and the trace is short enough, so no call refuses, and the answers are the figures.
use mathlib.Core.Path.{◌≡◌}
use borrow.Author.Rules.{rules}
use Rattle.std.specs.Prelude.{Err}
use Rattle.report.proofs.FiguresLaws.{figures_told, min_takes, mark_takes, layers_take_all}
use Rattle.report.proofs.figures.of.Goals as goal

pub returns-in_err-min : goal.returns-in_err-min
returns-in_err-min c =
    let e : c.from_residual.result ≡ Err c.in_err-min.field-0.0 = search rules in
    rw e (min_takes _ _ _ c.requires.0 c.requires.1 _ c.in_err-min.ensures)

pub returns-in_err-mark : goal.returns-in_err-mark
returns-in_err-mark c =
    let e : c.from_residual-in_err-mark.result ≡ Err c.in_err-mark.field-0.0 = search rules in
    rw e (mark_takes _ _ _ c.requires.0 c.requires.1 _ c.in_err-mark.ensures)

pub returns-in_err-layers : goal.returns-in_err-layers
returns-in_err-layers c =
    let e : c.from_residual-in_err-layers.result ≡ Err c.in_err-layers.field-0.0 = search rules in
    rw e (layers_take_all _ _ _ c.requires.0 c.requires.1 _ c.in_err-layers.ensures.0)

pub returns : goal.returns
returns c =
    figures_told _ _ _ c.requires.0 c.requires.1 _ _ _ _ _
    c.in_ok-min.ensures c.in_ok-lru.ensures c.in_ok-fifo.ensures c.in_ok-mark.ensures c.in_ok-layers.ensures.0
