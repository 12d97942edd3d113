-- The fields of authenticated messages, as values that hold no memory (RFC 9052, sections 6.1 and
-- 6.2).
use Rattle.std.specs.Prelude.{ℕ, List, [], Option, None}
use Rattle.coset_headers.specs.Fields.{HeaderFields, ProtectedFields, protected, no_header}
use Rattle.coset_recipients.specs.Fields.{RecipientsFields, no_recipients}

-- a COSE_Mac0
pub record Mac0Fields : Type 0 where
  pub protected : ProtectedFields
  pub unprotected : HeaderFields
  pub payload : Option (List ℕ)
  pub tag : List ℕ

-- a COSE_Mac
pub record MacFields : Type 0 where
  pub protected : ProtectedFields
  pub unprotected : HeaderFields
  pub payload : Option (List ℕ)
  pub tag : List ℕ
  pub recipients : RecipientsFields

abbrev pub no_mac0 : Mac0Fields
no_mac0 = record { protected = protected None no_header; unprotected = no_header; payload = None; tag = [] }

abbrev pub no_mac : MacFields
no_mac = record { protected = protected None no_header; unprotected = no_header; payload = None; tag = []; recipients = no_recipients }
