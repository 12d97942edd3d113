use Rattle.coset_signed.proofs.PutWritten.{sign1_written, sign_written}
use Rattle.coset_signed.proofs.laws.put_is_written.Goals as goal

pub returns : goal.returns
returns c = record {
  sign1 = sign1_written;
  sign = sign_written;
}
