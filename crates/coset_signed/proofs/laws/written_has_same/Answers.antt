use Rattle.coset_signed.proofs.Kept.{sign1_kept, sign_kept}
use Rattle.coset_signed.proofs.laws.written_has_same.Goals as goal

pub returns : goal.returns
returns c = record { sign1 = λ n k t u m. (sign1_kept n m k).again t u; sign = λ n k t u m. (sign_kept n m k).again t u }
