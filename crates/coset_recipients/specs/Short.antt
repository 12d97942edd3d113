-- Recipients in which each protected header that has no received bytes is encoded in fewer bytes
-- than a head can say.
use Rattle.coset_recipients.specs.PartsShort.{PartsShort}
use Rattle.coset_recipients.specs.Fields.{RecipientFields, recipient, RecipientsFields, no_recipients, recipient_more}

abbrev mutual
  pub RecipientShort : RecipientFields → Type 0
  RecipientShort (recipient p u c rs) = PartsShort p u × RecipientsShort rs

  pub RecipientsShort : RecipientsFields → Type 0
  RecipientsShort no_recipients = Unit {0}
  RecipientsShort (recipient_more r rs) = RecipientShort r × RecipientsShort rs
