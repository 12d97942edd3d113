use Rattle.coset_signed.proofs.Excludes.{sign1_not, sign_not}
use Rattle.coset_signed.proofs.laws.wrong_has_none.Goals as goal

pub returns : goal.returns
returns c = record { sign1 = sign1_not; sign = sign_not }
