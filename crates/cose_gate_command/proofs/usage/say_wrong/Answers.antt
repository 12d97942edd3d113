use Rattle.std.proofs.Common.{subst, append-nil}
use Rattle.cose_gate_program.specs.Writing.{Wrote}
use Rattle.cose_gate_program.proofs.Written.{wrote_then}
use Rattle.cose_gate_command.proofs.usage.say_wrong.Goals as goal

pub returns-clause-said : goal.returns-clause-said
returns-clause-said g c =
    let last = subst (λ z. Wrote g.E.Write c.write_wrong.new.err c.hand_on.new.out z) (append-nil _) (wrote_then g.E.Write _ _ _ _ _ c.write_indented.ensures c.hand_on.ensures.nothing) in
    wrote_then g.E.Write _ _ _ _ _ c.write.ensures (wrote_then g.E.Write _ _ _ _ _ c.write_wrong.ensures last)
