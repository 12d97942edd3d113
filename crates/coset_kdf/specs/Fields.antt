-- The fields of a KDF context and its parts, as values that hold no memory (RFC 9053, section 5.2).
use Rattle.std.specs.Prelude.{ℕ, ℤ, List, [], Option, None}
use Rattle.cose_iana.specs.Algorithms.{algorithm_number}
use Rattle.cose_iana.specs.declared.algorithm.Algorithm.TheVariants.{Reserved}
use Rattle.coset_labels.specs.Fields.{Named, assigned}
use Rattle.coset_headers.specs.Fields.{ProtectedFields, protected, no_header}

pub data NonceFields : Type 0 where
  nonce_bytes : List ℕ → NonceFields
  nonce_integer : ℤ → NonceFields

pub record PartyFields : Type 0 where
  pub identity : Option (List ℕ)
  pub nonce : Option NonceFields
  pub other : Option (List ℕ)

pub record PublicFields : Type 0 where
  pub key_data_length : ℕ
  pub protected_header : ProtectedFields
  pub other : Option (List ℕ)

pub record ContextFields : Type 0 where
  pub algorithm : Named
  pub party_u : PartyFields
  pub party_v : PartyFields
  pub public : PublicFields
  pub privates : List (List ℕ)

abbrev pub no_party : PartyFields
no_party = record { identity = None; nonce = None; other = None }

abbrev pub no_public : PublicFields
no_public = record { key_data_length = 0; protected_header = protected None no_header; other = None }

-- the algorithm is the reserved one
abbrev pub no_context : ContextFields
no_context = record {
  algorithm = assigned (algorithm_number Reserved);
  party_u = no_party;
  party_v = no_party;
  public = no_public;
  privates = [];
}
