use Rattle.cose_gate_program.proofs.Written.{wrote_then}
use Rattle.cose_gate_command.proofs.input.write_tail.Goals as goal

pub returns : goal.returns
returns g c = wrote_then g.E.Write _ _ _ _ _ c.write.ensures (wrote_then g.E.Write _ _ _ _ _ c.write-2.ensures c.write-3.ensures)
