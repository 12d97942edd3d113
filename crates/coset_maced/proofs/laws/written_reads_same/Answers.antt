use Rattle.coset_recipients.proofs.PartsKept.{kept_reads}
use Rattle.coset_maced.specs.Shapes.{HasMac0, HasMac}
use Rattle.coset_maced.proofs.Kept.{mac0_kept, mac_kept}
use Rattle.coset_maced.proofs.laws.written_reads_same.Goals as goal

pub returns : goal.returns
returns c = record {
  mac0 = λ n k limit b t u m. kept_reads (λ t. HasMac0 n t m k) _ (mac0_kept n m k) limit b t u;
  mac = λ n k limit b t u m. kept_reads (λ t. HasMac n t m k) _ (mac_kept n m k) limit b t u;
}
