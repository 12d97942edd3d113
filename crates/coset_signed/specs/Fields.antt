-- The fields of signed messages, as values that hold no memory (RFC 9052, sections 4.1 and 4.2).
use Rattle.std.specs.Prelude.{ℕ, List, [], ◌∷◌, ◌++◌, Option, None}
use Rattle.coset_headers.specs.Fields.{HeaderFields, ProtectedFields, protected, SignatureFields, signature, no_header}

-- a COSE_Sign1; a payload that is carried elsewhere is none
pub record Sign1Fields : Type 0 where
  pub protected : ProtectedFields
  pub unprotected : HeaderFields
  pub payload : Option (List ℕ)
  pub signature : List ℕ

-- a COSE_Sign
pub record SignFields : Type 0 where
  pub protected : ProtectedFields
  pub unprotected : HeaderFields
  pub payload : Option (List ℕ)
  pub signatures : List SignatureFields

abbrev pub no_protected : ProtectedFields
no_protected = protected None no_header

-- messages with no field
abbrev pub no_sign1 : Sign1Fields
no_sign1 = record { protected = no_protected; unprotected = no_header; payload = None; signature = [] }

abbrev pub no_sign : SignFields
no_sign = record { protected = no_protected; unprotected = no_header; payload = None; signatures = [] }

-- the protected header of a signature, its bytes, and the signature with other bytes
abbrev pub signer_of : SignatureFields → ProtectedFields
signer_of (signature p h c) = p

abbrev pub signature_bytes : SignatureFields → List ℕ
signature_bytes (signature p h c) = c

abbrev pub signed_by : SignatureFields → List ℕ → SignatureFields
signed_by (signature p h c) d = signature p h d

-- the message with one more signature
abbrev pub also_signed : SignFields → SignatureFields → SignFields
also_signed m s = record m { signatures = m.signatures ++ s ∷ [] }
