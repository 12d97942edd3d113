-- Parts in which each protected header that has no received bytes is encoded in fewer bytes than a
-- head can say.
use Rattle.coset_headers.specs.Fields.{HeaderFields, ProtectedFields}
use Rattle.coset_headers.specs.Short.{IsShort, ShowsShort}

abbrev pub PartsShort : ProtectedFields → HeaderFields → Type 0
PartsShort p u = ShowsShort p × IsShort u
