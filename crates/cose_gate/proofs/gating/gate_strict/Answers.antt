use Rattle.std.proofs.Common.{true}
use Rattle.cose_gate.proofs.Usual.{usually}
use Rattle.cose_gate.proofs.gating.gate_strict.Goals as goal

pub returns : goal.returns
returns g c = rw (usually c.default.result true c.default.ensures) at c.gate_strict_with.ensures
