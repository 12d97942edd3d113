use Rattle.coset_signed.proofs.Steps.{hidden}
use Rattle.coset_signed.proofs.sign_serial.read_signature.Goals as goal

pub returns-in-Err : goal.returns-in-Err
returns-in-Err c = hidden _ _ _ _ _ c.hide.ensures c.in-Err.ensures
