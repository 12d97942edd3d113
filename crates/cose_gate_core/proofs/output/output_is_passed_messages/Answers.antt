use Rattle.cose_gate_core.proofs.Outputs.{output_items}
use Rattle.cose_gate_core.proofs.output.output_is_passed_messages.Goals as goal

pub returns : goal.returns
returns c = output_items
