use Rattle.coset_maced.specs.View.{mac_view}
use Rattle.cose_gate_core.proofs.mac.CoseMacMessage.is_as_written.Goals as goal

pub returns : goal.returns
returns c = λ limits m has. c.is_as_written.ensures limits.nesting limits.layers (mac_view m) has
