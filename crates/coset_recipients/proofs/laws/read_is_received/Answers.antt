use Rattle.coset_recipients.proofs.Received.{recipient_received, list_received}
use Rattle.coset_recipients.proofs.laws.read_is_received.Goals as goal

pub returns : goal.returns
returns c = record {
  recipient = λ n k t r. recipient_received n r t k;
  recipients = λ n k t rs. list_received n rs t k;
}
