use Rattle.cose_gate_program.proofs.Handed.{flushed}
use Rattle.cose_gate_program.proofs.lines.hand_on.Goals as goal

pub returns-clause-handed : goal.returns-clause-handed
returns-clause-handed g c = flushed g.W.Write _ _ c.flush.result c.flush.ensures.failed c.flush.ensures.handed
