-- The fields of headers and signatures, as values that hold no memory (RFC 9052, sections 3 and
-- 4.1).
use Rattle.std.specs.Prelude.{ℕ, List, [], ◌∷◌, Option, None}
use Rattle.ciborium_value.specs.Tree.{Tree}
use Rattle.coset_labels.specs.Fields.{LabelFields, Named}

-- the fields of a header that hold no header (section 3.1); an empty one is an absent one
pub record Plain : Type 0 where
  pub alg : Option Named
  pub crit : List Named
  pub content_type : Option Named
  pub key_id : List ℕ
  pub iv : List ℕ
  pub partial_iv : List ℕ
  pub rest : List (LabelFields × Tree)

-- a header has counter signatures beside, a protected one its bytes if they were received, and a
-- signature has two headers
mutual
  pub data HeaderFields : Type 0 where
    header : Plain → Signatures → HeaderFields

  pub data ProtectedFields : Type 0 where
    protected : Option (List ℕ) → HeaderFields → ProtectedFields

  pub data SignatureFields : Type 0 where
    signature : ProtectedFields → HeaderFields → List ℕ → SignatureFields

  pub data Signatures : Type 0 where
    no_signatures : Signatures
    signature_more : SignatureFields → Signatures → Signatures

abbrev pub signatures : List SignatureFields → Signatures
signatures [] = no_signatures
signatures (s ∷ ss) = signature_more s (signatures ss)

abbrev pub plain_part : HeaderFields → Plain
plain_part (header p ss) = p

abbrev pub no_plain : Plain
no_plain = record { alg = None; crit = []; content_type = None; key_id = []; iv = []; partial_iv = []; rest = [] }

abbrev pub no_header : HeaderFields
no_header = header no_plain no_signatures
