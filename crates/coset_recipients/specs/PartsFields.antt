-- The parts that a message and a recipient begin with, as values that hold no memory (RFC 9052,
-- sections 4.2, 5.1 and 6.1).
use Rattle.std.specs.Prelude.{ℕ, List, Option, None}
use Rattle.coset_headers.specs.Fields.{HeaderFields, ProtectedFields, protected, no_header}

pub record PartsFields : Type 0 where
  pub protected : ProtectedFields
  pub unprotected : HeaderFields
  pub content : Option (List ℕ)

abbrev pub parts : ProtectedFields → HeaderFields → Option (List ℕ) → PartsFields
parts p u c = record { protected = p; unprotected = u; content = c }

abbrev pub no_parts : PartsFields
no_parts = parts (protected None no_header) no_header None
