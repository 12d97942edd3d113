-- The fields of encrypted messages, as values that hold no memory (RFC 9052, sections 5.1 and 5.2).
use Rattle.std.specs.Prelude.{ℕ, List, Option, None}
use Rattle.coset_headers.specs.Fields.{HeaderFields, ProtectedFields, protected, no_header}
use Rattle.coset_recipients.specs.Fields.{RecipientsFields, no_recipients}

-- a COSE_Encrypt0
pub record Encrypt0Fields : Type 0 where
  pub protected : ProtectedFields
  pub unprotected : HeaderFields
  pub ciphertext : Option (List ℕ)

-- a COSE_Encrypt
pub record EncryptFields : Type 0 where
  pub protected : ProtectedFields
  pub unprotected : HeaderFields
  pub ciphertext : Option (List ℕ)
  pub recipients : RecipientsFields

abbrev pub no_encrypt0 : Encrypt0Fields
no_encrypt0 = record { protected = protected None no_header; unprotected = no_header; ciphertext = None }

abbrev pub no_encrypt : EncryptFields
no_encrypt = record { protected = protected None no_header; unprotected = no_header; ciphertext = None; recipients = no_recipients }
