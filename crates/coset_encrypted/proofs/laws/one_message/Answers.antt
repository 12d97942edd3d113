use Rattle.coset_encrypted.proofs.Unique.{encrypt0_once, encrypt_once}
use Rattle.coset_encrypted.proofs.laws.one_message.Goals as goal

pub returns : goal.returns
returns c = record {
  encrypt0 = λ n k t m w. encrypt0_once n m w t k;
  encrypt = λ n k t m w. encrypt_once n m w t k;
}
