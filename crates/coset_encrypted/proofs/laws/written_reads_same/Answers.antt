use Rattle.coset_recipients.proofs.PartsKept.{kept_reads}
use Rattle.coset_encrypted.specs.Shapes.{HasEncrypt0, HasEncrypt}
use Rattle.coset_encrypted.proofs.Kept.{encrypt0_kept, encrypt_kept}
use Rattle.coset_encrypted.proofs.laws.written_reads_same.Goals as goal

pub returns : goal.returns
returns c = record {
  encrypt0 = λ n k limit b t u m. kept_reads (λ t. HasEncrypt0 n t m k) _ (encrypt0_kept n m k) limit b t u;
  encrypt = λ n k limit b t u m. kept_reads (λ t. HasEncrypt n t m k) _ (encrypt_kept n m k) limit b t u;
}
