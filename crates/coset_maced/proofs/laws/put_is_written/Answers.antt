use Rattle.coset_maced.proofs.PutWritten.{mac0_written, mac_written}
use Rattle.coset_maced.proofs.laws.put_is_written.Goals as goal

pub returns : goal.returns
returns c = record {
  mac0 = mac0_written;
  mac = mac_written;
}
