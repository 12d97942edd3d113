use Rattle.std.proofs.Common.{rules}
use Rattle.cose_gate_core.proofs.gating.entry_of.Goals as goal

pub returns : goal.returns
returns c = search rules
