use Rattle.coset_encrypted.proofs.Kept.{encrypt0_kept, encrypt_kept}
use Rattle.coset_encrypted.proofs.laws.written_has_same.Goals as goal

pub returns : goal.returns
returns c = record {
  encrypt0 = λ n k t u m. (encrypt0_kept n m k).again t u;
  encrypt = λ n k t u m. (encrypt_kept n m k).again t u;
}
