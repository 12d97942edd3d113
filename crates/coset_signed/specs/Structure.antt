-- The bytes that the signatures of messages cover (RFC 9052, section 4.4); none if a protected
-- header can't be written.
use Rattle.std.specs.Prelude.{ℕ, List, Option, Some, None, codes}
use Rattle.coset_headers.specs.Fields.{SignatureFields}
use Rattle.coset_base.specs.Structure.{sig_structure}
use Rattle.coset_recipients.specs.PartsWritten.{content_bytes}
use Rattle.coset_signed.specs.Fields.{Sign1Fields, SignFields, signer_of}

-- what the signature of a COSE_Sign1 covers with this payload, and with the message's own; one that
-- is carried elsewhere counts as empty
abbrev pub sign1_covered_with : Sign1Fields → List ℕ → List ℕ → Option (List ℕ)
sign1_covered_with m payload aad = sig_structure (codes "Signature1") m.protected None aad payload

abbrev pub sign1_covered : Sign1Fields → List ℕ → Option (List ℕ)
sign1_covered m aad = sign1_covered_with m (content_bytes m.payload) aad

-- what one signature of a COSE_Sign covers
abbrev pub sign_covered_with : SignFields → SignatureFields → List ℕ → List ℕ → Option (List ℕ)
sign_covered_with m s payload aad = sig_structure (codes "Signature") m.protected (Some (signer_of s)) aad payload

abbrev pub sign_covered : SignFields → SignatureFields → List ℕ → Option (List ℕ)
sign_covered m s aad = sign_covered_with m s (content_bytes m.payload) aad
