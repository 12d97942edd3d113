use Rattle.std.proofs.Common.{rules}
use Rattle.cose_gate_records.proofs.Frames.{eight_of}
use Rattle.cose_gate_records.proofs.framing.number_of.Goals as goal

pub returns : goal.returns
returns c = eight_of c.args.bytes c.from_le_bytes.result (search rules) (search rules) c.from_le_bytes.ensures
