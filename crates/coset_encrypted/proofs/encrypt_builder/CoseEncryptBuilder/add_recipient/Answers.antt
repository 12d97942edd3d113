use Rattle.std.proofs.Common.{ap}
use Rattle.coset_recipients.proofs.RecipientParts.{recipients_last}
use Rattle.coset_encrypted.specs.View.{encrypt_view}
use Rattle.coset_encrypted.proofs.encrypt_builder.CoseEncryptBuilder.add_recipient.Goals as goal

pub returns : goal.returns
returns c = ap (λ rs. record (encrypt_view c.args.self.message) { recipients = rs }) (recipients_last _ _ c.args.recipient c.in_ok-push.ensures.items)
