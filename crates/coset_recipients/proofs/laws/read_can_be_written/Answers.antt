use Rattle.coset_recipients.proofs.Writable.{recipient_some, list_some, structure_some}
use Rattle.coset_recipients.proofs.laws.read_can_be_written.Goals as goal

pub returns : goal.returns
returns c = record {
  recipient = λ n k t r. recipient_some n r t k;
  list = λ n k t rs. list_some n rs t k;
  structure = λ n k t r x aad h. structure_some x n r t k aad h;
}
