use Rattle.cose_gate_core.proofs.Shorter.{output_less}
use Rattle.cose_gate_core.proofs.output.output_is_no_longer.Goals as goal

pub returns : goal.returns
returns c = output_less
