use Rattle.std.proofs.Common.{rules}
use Rattle.cose_gate_core.proofs.gating.is_end.Goals as goal

pub returns-in-Io : goal.returns-in-Io
returns-in-Io g c = search rules
