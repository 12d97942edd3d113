use Rattle.cose_gate_program.proofs.Tellings.{usually}
use Rattle.cose_gate_program.proofs.program.run.Goals as goal

pub returns-clause-ran : goal.returns-clause-ran
returns-clause-ran g c = rw (usually c.default.result c.default.ensures) at c.run_with.ensures.ran
