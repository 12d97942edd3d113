use Rattle.coset_recipients.proofs.Again.{recipient_again, list_again}
use Rattle.coset_recipients.proofs.laws.written_has_same.Goals as goal

pub returns : goal.returns
returns c = record {
  recipient = λ n k t u r. recipient_again n r t u k;
  list = λ n k t u rs. list_again n rs t u k;
}
