use Rattle.std.proofs.Common.{reverse, sym, ◌∙◌}
use Rattle.cbor_walk.proofs.Steps.{group_agrees, group_refuses}
use Rattle.cbor_walk.proofs.walk.Walk.begin.Goals as goal

pub returns-then-not-takes-clause-syntax : goal.returns-then-not-takes-clause-syntax
returns-then-not-takes-clause-syntax c =
    rw (c.in-Some.is, c.requires.due) (λ title t. group_refuses c.args.header c.in-Some.holds (reverse c.args.self.now.levels.items) title t c.requires.on (sym c.takes.ensures ∙ c.if-not-takes.true))

pub returns-clause-ok : goal.returns-clause-ok
returns-clause-ok c =
    rw (c.in-Some.is, c.requires.due, c.size-self.ensures) (λ title t. group_agrees c.args.header c.in-Some.holds (reverse c.args.self.now.levels.items) title t c.requires.on (sym c.takes.ensures ∙ c.if-not-takes.false))
