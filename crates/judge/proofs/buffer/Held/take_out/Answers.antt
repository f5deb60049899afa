use Rattle.std.proofs.Common.{rules, arith}
use Rattle.judge.proofs.BufferLaws.{not_there, was_there, taken_out}
use Rattle.judge.proofs.buffer.Held.take_out.Goals as goal

pub returns-then-i-self-clause-was_held : goal.returns-then-i-self-clause-was_held
returns-then-i-self-clause-was_held c =
    rw (← c.self.view_is) (not_there c.args.page c.self.inside.count c.find-i.result c.self.inside.pages (search rules) c.find-i.ensures (omega arith))

pub returns-clause-was_held : goal.returns-clause-was_held
returns-clause-was_held c =
    rw (← c.self.view_is) (was_there c.args.page c.self.inside.count c.find-i.result c.self.inside.pages (search rules) c.find-i.ensures (omega arith))

pub returns-clause-out : goal.returns-clause-out
returns-clause-out c _ =
    rw (← c.self.view_is)
    (taken_out c.args.page c.self.inside.count c.find-i.result c.self.inside.pages c.to_end.new.list _ (search rules) c.find-i.ensures (omega arith)
    c.to_end.ensures (search rules))
