use Rattle.coset_maced.proofs.Writable.{mac0_some, mac0_covers, mac_some, mac_covers}
use Rattle.coset_maced.proofs.laws.read_can_be_written.Goals as goal

pub returns : goal.returns
returns c = record {
  mac0 = λ n k t m. mac0_some n m t k;
  mac0_covered = λ n k t m payload aad. mac0_covers n m t k payload aad;
  mac = λ n k t m. mac_some n m t k;
  mac_covered = λ n k t m payload aad. mac_covers n m t k payload aad;
}
