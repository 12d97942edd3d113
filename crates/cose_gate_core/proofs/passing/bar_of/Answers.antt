use Rattle.cose_gate_core.proofs.Items.{is_detached, is_unsigned, is_judged}
use Rattle.cose_gate_core.proofs.passing.bar_of.Goals as goal

pub returns-then-not-is_carried : goal.returns-then-not-is_carried
returns-then-not-is_carried g c = λ l b u h told. is_detached l b u (g.M.Message.message c.args.message.now) h c.if-not-is_carried.ensures

pub returns-then-is_unsigned : goal.returns-then-is_unsigned
returns-then-is_unsigned g c = λ l b u h told. is_unsigned l b u (g.M.Message.message c.args.message.now) h c.if-not-is_carried.ensures c.if-is_unsigned.ensures

pub returns-then-not-shortest : goal.returns-then-not-shortest
returns-then-not-shortest g c = λ l b u h told.
    let m = g.M.Message.message c.args.message.now in
    let held = rw c.if-not-shortest.true at told in
    (m, is_judged l u m h c.if-not-is_carried.ensures c.if-is_unsigned.ensures, held.0, held.1)

pub returns : goal.returns
returns g c = λ l b u h told. (is_judged l u (g.M.Message.message c.args.message.now) h c.if-not-is_carried.ensures c.if-is_unsigned.ensures, rw c.if-not-shortest.false at told)
