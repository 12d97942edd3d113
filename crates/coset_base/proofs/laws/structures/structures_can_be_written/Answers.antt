use Rattle.std.proofs.Common.{None, Some}
use Rattle.coset_base.proofs.Writable.{sig_data_some, mac_data_some, enc_data_some, no_signer_some, signer_is_some}
use Rattle.coset_base.proofs.laws.structures.structures_can_be_written.Goals as goal

pub returns : goal.returns
returns c = record {
  one = λ context aad payload p m. (sig_data_some context p None aad payload m no_signer_some, mac_data_some context p aad payload m, enc_data_some context p aad m);
  signer = λ context aad payload p q m n. sig_data_some context p (Some q) aad payload m (signer_is_some q n);
}
