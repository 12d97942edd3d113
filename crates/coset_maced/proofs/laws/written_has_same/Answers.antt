use Rattle.coset_maced.proofs.Kept.{mac0_kept, mac_kept}
use Rattle.coset_maced.proofs.laws.written_has_same.Goals as goal

pub returns : goal.returns
returns c = record {
  mac0 = λ n k t u m. (mac0_kept n m k).again t u;
  mac = λ n k t u m. (mac_kept n m k).again t u;
}
