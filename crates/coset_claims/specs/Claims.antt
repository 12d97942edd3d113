-- Which claims a value has (RFC 8392, sections 3 and 3.1).
use Rattle.std.specs.Prelude.{◌≡◌, ℕ, List, Bool, ◌||◌, if◌then◌else◌, Option, Some, None, option_map}
use Rattle.cose_iana.specs.Claims.{cwt_claim_names}
use Rattle.cose_iana.specs.Registry.{is_private_use}
use Rattle.ciborium_value.specs.Tree.{Tree, integer, bytes, text, map as map_tree, float, Pairs}
use Rattle.coset_labels.specs.Entries.{is_name, Distinct}
use Rattle.coset_labels.specs.Entries as map_entries
use Rattle.coset_labels.specs.Fields.{Named}
use Rattle.coset_labels.specs.Labels.{is_i64, named_of}
use Rattle.coset_claims.specs.Fields.{TimeFields, whole_seconds, fractional_seconds, ClaimsFields}

-- the name of a claim: a registered number, one for private use, or a text
abbrev pub name_of : Tree → Option Named
name_of = named_of cwt_claim_names.is_registered is_private_use

abbrev pub is_at : ℕ → Named → Bool
is_at = is_name

-- a claim with a field of its own: 1 to 7
abbrev pub is_core : Named → Bool
is_core m = is_at 1 m || (is_at 2 m || (is_at 3 m || (is_at 4 m || (is_at 5 m || (is_at 6 m || is_at 7 m)))))

-- 1 to 3: texts
abbrev pub text_of : Tree → Option (List ℕ)
text_of (text b) = Some b
text_of _ = None

-- 4 to 6: integers of 64 bits, or floats
abbrev pub time_of : Tree → Option TimeFields
time_of (integer i) = if is_i64 i then Some (whole_seconds i) else None
time_of (float f) = Some (fractional_seconds f)
time_of _ = None

-- 7: bytes, which may be none
abbrev pub bytes_of : Tree → Option (List ℕ)
bytes_of (bytes b) = Some b
bytes_of _ = None

-- the entries of a map with their names, or none if a key is no name
abbrev pub entries : Pairs → Option (List (Named × Tree))
entries = map_entries.entries name_of

-- the value of the claim n
abbrev pub at : ℕ → List (Named × Tree) → Option Tree
at n = map_entries.at (is_at n)

-- the claims without a field of their own, in order
abbrev pub others : List (Named × Tree) → List (Named × Tree)
others = map_entries.others is_core

-- the field is what the value there is, and none if none is
abbrev pub IsField : {A : Type 0} → (Tree → Option A) → Option Tree → Option A → Type 0
IsField f = map_entries.IsField (λ t. option_map Some (f t)) None

pub record IsClaims (es : List (Named × Tree)) (c : ClaimsFields) : Type 0 where
  pub issuer : IsField text_of (at 1 es) c.issuer
  pub subject : IsField text_of (at 2 es) c.subject
  pub audience : IsField text_of (at 3 es) c.audience
  pub expiration_time : IsField time_of (at 4 es) c.expiration_time
  pub not_before : IsField time_of (at 5 es) c.not_before
  pub issued_at : IsField time_of (at 6 es) c.issued_at
  pub cwt_id : IsField bytes_of (at 7 es) c.cwt_id
  pub rest : c.rest ≡ others es

-- a map whose keys are names, none twice, with its fields
abbrev pub HasClaims : Tree → ClaimsFields → Type 0
HasClaims t c = (ps : Pairs) × (es : List (Named × Tree)) × (t ≡ map_tree ps) × (entries ps ≡ Some es) × Distinct es × IsClaims es c
