use Rattle.cose_gate_program.proofs.Held.{held_begins}
use Rattle.cose_gate_program.proofs.blocks.BlocksRead.held.Goals as goal

pub returns-clause-front : goal.returns-clause-front
returns-clause-front g c = rw c.buffer.ensures (held_begins g.R.Read.remaining c.args.self.now.reader)
