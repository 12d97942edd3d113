-- What is as received, and so may be written straight from its fields. Each header, each protected
-- header and each signature that was read is so.
use Rattle.std.specs.Prelude.{Bool, true, ◌||◌, ◌&&◌, not, is_some}
use Rattle.coset_headers.specs.Fields.{HeaderFields, header, ProtectedFields, protected, SignatureFields, signature, Signatures, no_signatures, signature_more}
use Rattle.coset_headers.specs.Written.{is_empty, twice}

-- the protected header has received bytes, or is empty (RFC 9052, section 3)
abbrev pub is_received_protected : ProtectedFields → Bool
is_received_protected (protected b h) = is_some b || is_empty h

-- and so is each protected header inside; and no label is in a `rest` twice (sections 3 and 4.1)
abbrev mutual
  pub is_received_header : HeaderFields → Bool
  is_received_header (header p ss) = not (twice p.rest) && are_received_signatures ss

  pub is_received_signature : SignatureFields → Bool
  is_received_signature (signature p h c) = is_received_protected p && is_received_header h

  pub are_received_signatures : Signatures → Bool
  are_received_signatures no_signatures = true
  are_received_signatures (signature_more s ss) = is_received_signature s && are_received_signatures ss
