use Rattle.coset_recipients.proofs.PutWritten.{recipient_written, list_written}
use Rattle.coset_recipients.proofs.laws.put_is_written.Goals as goal

pub returns : goal.returns
returns c = record {
  recipient = recipient_written;
  recipients = list_written;
}
