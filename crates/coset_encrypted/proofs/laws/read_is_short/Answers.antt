use Rattle.coset_encrypted.proofs.Fit.{encrypt0_short, encrypt_short}
use Rattle.coset_encrypted.proofs.laws.read_is_short.Goals as goal

pub returns : goal.returns
returns c = record { encrypt0 = λ n k t m. encrypt0_short n m t k; encrypt = λ n k t m. encrypt_short n m t k }
