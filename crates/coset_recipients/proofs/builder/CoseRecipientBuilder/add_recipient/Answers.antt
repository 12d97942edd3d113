use Rattle.std.proofs.Common.{ap, option_map}
use Rattle.coset_headers.specs.View.{header_view, protected_view}
use Rattle.coset_recipients.specs.Fields.{recipient}
use Rattle.coset_recipients.proofs.RecipientParts.{recipients_last}
use Rattle.coset_recipients.proofs.builder.CoseRecipientBuilder.add_recipient.Goals as goal

pub returns : goal.returns
returns c =
    ap (recipient (protected_view c.args.self.protected) (header_view c.args.self.unprotected) (option_map (λ v. v.items) c.args.self.ciphertext))
    (recipients_last _ _ c.args.recipient c.in_ok-push.ensures.items)
