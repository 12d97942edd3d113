use Rattle.coset_recipients.proofs.Copied.{copied_inside}
use Rattle.coset_recipients.proofs.recipient.CoseRecipient.clone.Goals as goal

pub returns : goal.returns
returns c = copied_inside c.in_ok-copy.copy c.args.self.now _ c.copy_recipients.new.copies c.in_ok-copy.ensures c.deref.ensures.value c.in_ok-copy_recipients.ensures
