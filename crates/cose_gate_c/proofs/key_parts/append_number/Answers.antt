use Rattle.std.proofs.Common.{rules}
use Rattle.cose_gate_records.specs.Framing.{eight}
use Rattle.cose_gate_c.proofs.key_parts.append_number.Goals as goal

pub returns : goal.returns
unfolding eight
returns c = search rules
