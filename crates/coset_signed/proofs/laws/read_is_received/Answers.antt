use Rattle.coset_signed.proofs.Received.{sign1_received, sign_received}
use Rattle.coset_signed.proofs.laws.read_is_received.Goals as goal

pub returns : goal.returns
returns c = record {
  sign1 = λ n k t m. sign1_received n m t k;
  sign = λ n k t m. sign_received n m t k;
}
