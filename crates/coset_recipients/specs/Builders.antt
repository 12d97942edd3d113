-- What a builder has so far.
use Rattle.std.specs.Prelude.{ℕ, List, Option, None, option_map}
use Rattle.coset_headers.specs.Fields.{HeaderFields, protected, no_header}
use Rattle.coset_headers.specs.View.{header_view, protected_view}
use Rattle.coset_recipients.specs.Fields.{RecipientFields, recipient, RecipientsFields, no_recipients, recipient_more}
use Rattle.coset_recipients.specs.View.{recipients_view}
use Rattle.coset_recipients.specs.declared.builder.CoseRecipientBuilder.{CoseRecipientBuilder}

-- a recipient with no field
abbrev pub no_recipient : RecipientFields
no_recipient = recipient (protected None no_header) no_header None no_recipients

abbrev pub recipient_so_far : CoseRecipientBuilder → RecipientFields
recipient_so_far b = recipient (protected_view b.protected) (header_view b.unprotected) (option_map (λ v. v.items) b.ciphertext) (recipients_view b.recipients.items)

-- the protected header is another, with no bytes received
abbrev pub with_protected : HeaderFields → RecipientFields → RecipientFields
with_protected h (recipient p u c rs) = recipient (protected None h) u c rs

abbrev pub with_unprotected : HeaderFields → RecipientFields → RecipientFields
with_unprotected h (recipient p u c rs) = recipient p h c rs

abbrev pub with_ciphertext : Option (List ℕ) → RecipientFields → RecipientFields
with_ciphertext c (recipient p u d rs) = recipient p u c rs

-- one more recipient, after the others
abbrev pub recipients_and : RecipientFields → RecipientsFields → RecipientsFields
recipients_and r no_recipients = recipient_more r no_recipients
recipients_and r (recipient_more s ss) = recipient_more s (recipients_and r ss)

abbrev pub with_one_more : RecipientFields → RecipientFields → RecipientFields
with_one_more r (recipient p u c rs) = recipient p u c (recipients_and r rs)
