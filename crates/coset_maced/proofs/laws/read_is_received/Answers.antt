use Rattle.coset_maced.proofs.Received.{mac0_received, mac_received}
use Rattle.coset_maced.proofs.laws.read_is_received.Goals as goal

pub returns : goal.returns
returns c = record {
  mac0 = λ n k t m. mac0_received n m t k;
  mac = λ n k t m. mac_received n m t k;
}
