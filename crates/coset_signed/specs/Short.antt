-- Messages in which each protected header that has no received bytes is encoded in fewer bytes than
-- a head can say.
use Rattle.coset_headers.specs.Fields.{signatures}
use Rattle.coset_headers.specs.Short.{AllShort}
use Rattle.coset_recipients.specs.PartsShort.{PartsShort}
use Rattle.coset_signed.specs.Fields.{Sign1Fields, SignFields}

abbrev pub Sign1Short : Sign1Fields → Type 0
Sign1Short m = PartsShort m.protected m.unprotected

abbrev pub SignShort : SignFields → Type 0
SignShort m = PartsShort m.protected m.unprotected × AllShort (signatures m.signatures)
