use Rattle.coset_signed.proofs.Received.{sign1_received, sign_received}
use Rattle.coset_signed.proofs.PutWritten.{sign1_written, sign_written}
use Rattle.coset_signed.proofs.laws.read_is_put.Goals as goal

pub returns : goal.returns
returns c = record {
  sign1 = λ n k t m h. sign1_written m (sign1_received n m t k h);
  sign = λ n k t m h. sign_written m (sign_received n m t k h);
}
