use Rattle.std.proofs.Common.{refl, subst}
use Rattle.cose_gate_program.specs.Writing.{Wrote}
use Rattle.cose_gate_command.proofs.command.program.Goals as goal

pub returns-in-Err-clause-ran : goal.returns-in-Err-clause-ran
returns-in-Err-clause-ran g c =
    rw c.in-Err.ensures (refl, refl, subst (λ z. Wrote g.E.Write c.args.err.now c.say_wrong.new.err z) c.gate_usage.ensures c.say_wrong.ensures.said)

pub returns-clause-ran : goal.returns-clause-ran
returns-clause-ran g c = rw c.in-Ok.ensures c.run_asked.ensures.ran
