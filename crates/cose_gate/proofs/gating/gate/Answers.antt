use Rattle.std.proofs.Common.{false}
use Rattle.cose_gate.proofs.Usual.{usually}
use Rattle.cose_gate.proofs.gating.gate.Goals as goal

pub returns : goal.returns
returns g c = rw (usually c.default.result false c.default.ensures) at c.gate_with.ensures
