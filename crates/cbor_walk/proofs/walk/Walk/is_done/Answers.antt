use Rattle.std.proofs.Common.{◌≡◌, None, rules, reverse}
use Rattle.cbor_walk.proofs.Steps.{nothing_due}
use Rattle.cbor_walk.proofs.walk.Walk.is_done.Goals as goal

pub returns-then-self-eq0-clause-done : goal.returns-then-self-eq0-clause-done
returns-then-self-eq0-clause-done c = λ e.
    let none : c.args.self.now.holds ≡ None = search rules in
    nothing_due c.args.self.now.holds c.args.self.now.due (reverse c.args.self.now.levels.items) none c.if-self-eq0.true
