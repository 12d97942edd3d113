use Rattle.cose_gate_program.proofs.Held.{held_dropped}
use Rattle.cose_gate_program.proofs.blocks.BlocksRead.take.Goals as goal

pub returns-clause-taken : goal.returns-clause-taken
returns-clause-taken g c = λ _. held_dropped _ _ _ _ c.requires c.consume.ensures.bytes
