use Rattle.coset_recipients.proofs.Received.{recipient_received, list_received}
use Rattle.coset_recipients.proofs.PutWritten.{recipient_written, list_written}
use Rattle.coset_recipients.proofs.laws.read_is_put.Goals as goal

pub returns : goal.returns
returns c = record {
  recipient = λ n k t r h. recipient_written r (recipient_received n r t k h);
  recipients = λ n k t rs h. list_written rs (list_received n rs t k h);
}
