use Rattle.coset_recipients.proofs.Unique.{recipient_once, list_once}
use Rattle.coset_recipients.proofs.laws.one_recipient.Goals as goal

pub returns : goal.returns
returns c = record {
  recipient = λ n k t r s. recipient_once n r s t k;
  list = λ n k t rs ss. list_once n rs ss t k;
}
