-- The fields of a key, as a value that holds no memory (RFC 9052, section 7.1).
use Rattle.std.specs.Prelude.{pos, ℕ, List, [], Option, None}
use Rattle.ciborium_value.specs.Tree.{Tree}
use Rattle.coset_labels.specs.Fields.{LabelFields, Named, assigned}

-- an empty field is an absent one; the operations rise
pub record KeyFields : Type 0 where
  pub kty : Named
  pub key_id : List ℕ
  pub alg : Option Named
  pub key_ops : List Named
  pub base_iv : List ℕ
  pub params : List (LabelFields × Tree)

-- the type of no key
abbrev pub reserved : Named
reserved = assigned (pos 0)

abbrev pub no_key : KeyFields
no_key = record { kty = reserved; key_id = []; alg = None; key_ops = []; base_iv = []; params = [] }
