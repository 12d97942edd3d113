use Rattle.std.proofs.Common.{arith}
use Rattle.ciborium.proofs.FrameLemmas.{key_more, value_more}
use Rattle.ciborium.proofs.frames.put_half.Goals as goal

pub returns-then-not-list-clause-ok : goal.returns-then-not-list-clause-ok
returns-then-not-list-clause-ok g c = key_more _ _ _ c.args.half _ c.if-not-list.true c.in-Ok.ensures.items

pub returns-clause-ok : goal.returns-clause-ok
returns-clause-ok g c =
    value_more c.args.list.now.entries.items _ _ c.in-Some.entry.now c.args.half c.if-not-list.false
    (omega (arith, c.args.list.now.entries.ok.0, c.requires.half c.if-not-list.false)) c.in-Some.ensures.value
