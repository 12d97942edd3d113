-- Messages in which each protected header that has no received bytes is encoded in fewer bytes than
-- a head can say.
use Rattle.coset_recipients.specs.PartsShort.{PartsShort}
use Rattle.coset_recipients.specs.Short.{RecipientsShort}
use Rattle.coset_maced.specs.Fields.{Mac0Fields, MacFields}

abbrev pub Mac0Short : Mac0Fields → Type 0
Mac0Short m = PartsShort m.protected m.unprotected

abbrev pub MacShort : MacFields → Type 0
MacShort m = PartsShort m.protected m.unprotected × RecipientsShort m.recipients
