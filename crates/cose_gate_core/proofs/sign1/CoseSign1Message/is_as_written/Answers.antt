use Rattle.coset_signed.specs.View.{sign1_view}
use Rattle.cose_gate_core.proofs.sign1.CoseSign1Message.is_as_written.Goals as goal

pub returns : goal.returns
returns c = λ limits m has. c.is_as_written.ensures limits.nesting limits.layers (sign1_view m) has
