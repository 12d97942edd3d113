-- Protected headers inside a header that have no received bytes: each is encoded in fewer bytes
-- than a head can say.
use Rattle.std.specs.Prelude.{◌≡◌, ℕ, ◌^◌, ◌<◌, List, length, Some, None}
use Rattle.coset_headers.specs.Fields.{HeaderFields, header, ProtectedFields, protected, SignatureFields, signature, Signatures, no_signatures, signature_more}
use Rattle.coset_headers.specs.Written.{shown}

abbrev mutual
  pub IsShort : HeaderFields → Type 0
  IsShort (header p ss) = AllShort ss

  pub ShowsShort : ProtectedFields → Type 0
  ShowsShort (protected (Some b) h) = Unit {0}
  ShowsShort (protected None h) = IsShort h × ((b : List ℕ) → shown (protected None h) ≡ Some b → length b < 2 ^ 64)

  pub SignatureShort : SignatureFields → Type 0
  SignatureShort (signature p h c) = ShowsShort p × IsShort h

  pub AllShort : Signatures → Type 0
  AllShort no_signatures = Unit {0}
  AllShort (signature_more s ss) = SignatureShort s × AllShort ss
