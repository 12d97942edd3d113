use Rattle.cose_gate_core.proofs.Exact.{output_received}
use Rattle.cose_gate_core.proofs.output.output_is_received.Goals as goal

pub returns : goal.returns
returns c = record { received = λ l allows aad at b ss rest strict r. output_received l allows aad strict at b ss rest r }
