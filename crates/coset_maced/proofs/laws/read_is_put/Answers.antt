use Rattle.coset_maced.proofs.Received.{mac0_received, mac_received}
use Rattle.coset_maced.proofs.PutWritten.{mac0_written, mac_written}
use Rattle.coset_maced.proofs.laws.read_is_put.Goals as goal

pub returns : goal.returns
returns c = record {
  mac0 = λ n k t m h. mac0_written m (mac0_received n m t k h);
  mac = λ n k t m h. mac_written m (mac_received n m t k h);
}
