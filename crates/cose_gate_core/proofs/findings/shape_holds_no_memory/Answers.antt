use Rattle.cose_gate_core.proofs.NoMemory.{misshapen_is_named}
use Rattle.cose_gate_core.proofs.findings.shape_holds_no_memory.Goals as goal

pub returns : goal.returns
returns c = misshapen_is_named
