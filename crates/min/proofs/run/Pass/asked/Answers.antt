use mathlib.Core.Path.{ap, ◌∙◌}
use Rattle.keys.specs.Keys.{kind_in}
use Rattle.min.proofs.Turn.{key_present, key_next}
use Rattle.min.proofs.run.Pass.asked.Goals as goal

pub returns : goal.returns
returns c =
    let k = c.args.self.k in
    let trace = c.args.self.trace.now in
    let present = key_present c.args.t trace c.requires _ c.key_of-present.ensures in
    let next = key_next c.args.t trace c.requires k c.args.self.a _ c.args.self.lefts.now c.args.self.ready c.key_of-next.ensures in
    (c.outcome-outcome.ensures ∙ ap (λ x. kind_in k x c.args.held.now) present, next)
