use Rattle.coset_signed.specs.View.{sign_view}
use Rattle.cose_gate_core.proofs.sign.CoseSignMessage.is_as_written.Goals as goal

pub returns : goal.returns
returns c = λ limits m has. c.is_as_written.ensures limits.nesting limits.layers (sign_view m) has
