use Rattle.std.proofs.Common.{rules}
use Rattle.cose_gate_records.specs.Framing.{eight}
use Rattle.cose_gate_c.proofs.question_writing.eight.Goals as goal

pub returns : goal.returns
unfolding eight
returns c = search rules
