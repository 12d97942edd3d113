-- Messages in which each protected header that has no received bytes is encoded in fewer bytes than
-- a head can say.
use Rattle.coset_recipients.specs.PartsShort.{PartsShort}
use Rattle.coset_recipients.specs.Short.{RecipientsShort}
use Rattle.coset_encrypted.specs.Fields.{Encrypt0Fields, EncryptFields}

abbrev pub Encrypt0Short : Encrypt0Fields → Type 0
Encrypt0Short m = PartsShort m.protected m.unprotected

abbrev pub EncryptShort : EncryptFields → Type 0
EncryptShort m = PartsShort m.protected m.unprotected × RecipientsShort m.recipients
