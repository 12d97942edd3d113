use Rattle.std.proofs.Common.{rules}
use Rattle.cose_gate_records.specs.Framing.{eight}
use Rattle.cose_gate_records.proofs.framing.eight.Goals as goal

pub returns : goal.returns
unfolding eight
returns c = search rules
