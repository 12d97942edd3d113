use Rattle.coset_recipients.proofs.PartsKept.{kept_reads}
use Rattle.coset_signed.specs.Shapes.{HasSign1, HasSign}
use Rattle.coset_signed.proofs.Kept.{sign1_kept, sign_kept}
use Rattle.coset_signed.proofs.laws.written_reads_same.Goals as goal

pub returns : goal.returns
returns c = record {
  sign1 = λ n k limit b t u m. kept_reads (λ t. HasSign1 n t m k) _ (sign1_kept n m k) limit b t u;
  sign = λ n k limit b t u m. kept_reads (λ t. HasSign n t m k) _ (sign_kept n m k) limit b t u;
}
