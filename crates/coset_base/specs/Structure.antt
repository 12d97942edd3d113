-- The bytes that signatures, tags and encryptions cover (RFC 9052, sections 4.4, 5.3 and 6.3).
use Rattle.std.specs.Prelude.{ℕ, List, [], ◌∷◌, ◌++◌, Bool, true, Option, Some, None, option_map, option_and_then}
use Rattle.std.specs.Borrow.{Bor}
use Rattle.ciborium_value.specs.Tree.{bytes, text, array}
use Rattle.ciborium_value.specs.View.{trees}
use Rattle.ciborium_value.specs.Encoding.{enc}
use Rattle.coset_headers.specs.Fields.{ProtectedFields, protected}
use Rattle.coset_headers.specs.Written.{shown, is_empty}

abbrev pub signer_part : Option (List ℕ) → List ℕ → List ℕ → List ℕ → List ℕ → List ℕ
signer_part None context body aad payload = enc (array (trees (text context ∷ bytes body ∷ bytes aad ∷ bytes payload ∷ [])))
signer_part (Some b) context body aad payload = enc (array (trees (text context ∷ bytes body ∷ bytes b ∷ bytes aad ∷ bytes payload ∷ [])))

-- the Sig_structure (section 4.4): context, the bytes shown for the body's protected header, those
-- for the signer's if there is a signer, external data and payload; the MAC_structure (section 6.3)
-- is one without a signer
abbrev pub structure : List ℕ → List ℕ → Option (List ℕ) → List ℕ → List ℕ → List ℕ
structure context body signer aad payload = signer_part signer context body aad payload

-- the Enc_structure (section 5.3): context, the bytes shown for the protected header and external
-- data
abbrev pub enc_structure : List ℕ → List ℕ → List ℕ → List ℕ
enc_structure context body aad = enc (array (trees (text context ∷ bytes body ∷ bytes aad ∷ [])))

-- the bytes shown for a protected header are there without encoding it: they were received, or
-- there are none, as of an empty header
abbrev pub is_at_hand : ProtectedFields → Bool
is_at_hand (protected (Some b) h) = true
is_at_hand (protected None h) = is_empty h

-- the bytes shown for a signer, if there is one
abbrev pub shown_signer : Option ProtectedFields → Option (Option (List ℕ))
shown_signer None = Some None
shown_signer (Some p) = option_map Some (shown p)

-- the structures of protected headers; none if one of them can't be written
abbrev pub sig_structure : List ℕ → ProtectedFields → Option ProtectedFields → List ℕ → List ℕ → Option (List ℕ)
sig_structure context body signer aad payload =
    option_and_then (λ b. option_map (λ s. structure context b s aad payload) (shown_signer signer)) (shown body)

abbrev pub mac_structure : List ℕ → ProtectedFields → List ℕ → List ℕ → Option (List ℕ)
mac_structure context body aad payload = option_map (λ b. structure context b None aad payload) (shown body)

abbrev pub encryption_structure : List ℕ → ProtectedFields → List ℕ → Option (List ℕ)
encryption_structure context body aad = option_map (λ b. enc_structure context b aad) (shown body)

-- what follows a structure's title and context: the byte strings of the body's protected header, of
-- the signer's if there is a signer, of the external data and of the payload
abbrev pub behind_prefix : List ℕ → Option (List ℕ) → List ℕ → List ℕ → List ℕ
behind_prefix body None aad payload = enc (bytes body) ++ (enc (bytes aad) ++ enc (bytes payload))
behind_prefix body (Some b) aad payload = enc (bytes body) ++ (enc (bytes b) ++ (enc (bytes aad) ++ enc (bytes payload)))

abbrev pub behind_enc_prefix : List ℕ → List ℕ → List ℕ
behind_enc_prefix body aad = enc (bytes body) ++ enc (bytes aad)

-- a part as it is in a structure
abbrev pub byte_string : Bor (List ℕ) → List ℕ
byte_string part = enc (bytes part.now)
