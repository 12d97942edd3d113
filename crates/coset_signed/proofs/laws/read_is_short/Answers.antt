use Rattle.coset_signed.proofs.Fit.{sign1_short, sign_short}
use Rattle.coset_signed.proofs.laws.read_is_short.Goals as goal

pub returns : goal.returns
returns c = record { sign1 = sign1_short; sign = sign_short }
