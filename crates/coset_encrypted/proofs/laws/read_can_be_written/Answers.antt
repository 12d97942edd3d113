use Rattle.coset_encrypted.proofs.Writable.{encrypt0_some, encrypt0_covers, encrypt_some, encrypt_covers}
use Rattle.coset_encrypted.proofs.laws.read_can_be_written.Goals as goal

pub returns : goal.returns
returns c = record {
  encrypt0 = λ n k t m. encrypt0_some n m t k;
  encrypt0_covered = λ n k t m aad. encrypt0_covers n m t k aad;
  encrypt = λ n k t m. encrypt_some n m t k;
  encrypt_covered = λ n k t m aad. encrypt_covers n m t k aad;
}
