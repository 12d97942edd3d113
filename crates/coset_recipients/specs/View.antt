-- The fields that recipients of the code have.
use Rattle.std.specs.Prelude.{List, map, option_map}
use Rattle.coset_headers.specs.View.{header_view, protected_view}
use Rattle.coset_recipients.specs.Fields.{RecipientFields, recipient, RecipientsFields, recipients}
use Rattle.coset_recipients.specs.declared.recipient.CoseRecipient.{CoseRecipient, out-CoseRecipient, fold-CoseRecipient}
use Rattle.coset_recipients.specs.declared.recipient.CoseRecipient.TheOpen.{CoseRecipient-F}

abbrev pub recipient_step : CoseRecipient-F RecipientFields → RecipientFields
recipient_step r = recipient (protected_view r.protected) (header_view r.unprotected) (option_map (λ v. v.items) r.ciphertext) (recipients r.recipients.items)

abbrev pub recipient_view : CoseRecipient → RecipientFields
recipient_view = fold-CoseRecipient RecipientFields recipient_step

abbrev pub recipients_view : List CoseRecipient → RecipientsFields
recipients_view rs = recipients (map recipient_view rs)

-- the same fields, each by itself
abbrev pub fields_of : CoseRecipient-F CoseRecipient → RecipientFields
fields_of r = recipient (protected_view r.protected) (header_view r.unprotected) (option_map (λ v. v.items) r.ciphertext) (recipients_view r.recipients.items)

abbrev pub opened : CoseRecipient → RecipientFields
opened r = fields_of (out-CoseRecipient r)
