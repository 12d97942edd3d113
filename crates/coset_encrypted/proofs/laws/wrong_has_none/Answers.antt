use Rattle.coset_encrypted.proofs.Unique.{encrypt0_not, encrypt_not}
use Rattle.coset_encrypted.proofs.laws.wrong_has_none.Goals as goal

pub returns : goal.returns
returns c = record {
  encrypt0 = λ n k t e m w h. encrypt0_not n t k e w m h;
  encrypt = λ n k t e m w h. encrypt_not n t k e w m h;
}
