-- Which fields a value has as a KDF context or a part of one (RFC 9053, section 5.2). The nesting
-- limit `n` and the layers left `k` are those of the protected header.
use Rattle.std.specs.Prelude.{◌≡◌, ℕ, ℤ, pos, negsuc, List, [], ◌∷◌, Bool, false, if◌then◌else◌, nat_eq, nat_lt, Option, Some, None, map}
use Rattle.cose_iana.specs.Algorithms.{is_algorithm}
use Rattle.cose_iana.specs.Registry.{is_private_use}
use Rattle.ciborium_value.specs.Tree.{Tree, integer, bytes, array, simple, Trees, one_more}
use Rattle.ciborium_value.specs.View.{trees}
use Rattle.coset_labels.specs.Labels.{is_i64, named_of}
use Rattle.coset_headers.specs.Headers.{HasProtected, list_of_three}
use Rattle.coset_kdf.specs.Fields.{NonceFields, nonce_bytes, nonce_integer, PartyFields, PublicFields, ContextFields}

-- a byte string, or null
abbrev pub bytes_or_nil : Tree → Option (Option (List ℕ))
bytes_or_nil (bytes b) = Some (Some b)
bytes_or_nil (simple n) = if nat_eq n 22 then Some None else None
bytes_or_nil _ = None

-- a byte string, an integer of 64 bits, or null
abbrev pub nonce_of : Tree → Option (Option NonceFields)
nonce_of (bytes b) = Some (Some (nonce_bytes b))
nonce_of (integer i) = if is_i64 i then Some (Some (nonce_integer i)) else None
nonce_of (simple n) = if nat_eq n 22 then Some None else None
nonce_of _ = None

-- PartyInfo: identity, nonce and other
abbrev pub HasParty : Tree → PartyFields → Type 0
HasParty t p = (a b c : Tree) × (t ≡ array (list_of_three a b c))
    × (bytes_or_nil a ≡ Some p.identity) × (nonce_of b ≡ Some p.nonce) × (bytes_or_nil c ≡ Some p.other)

-- the integer lies in 0 to 2^64 - 1
abbrev pub is_u64 : ℤ → Bool
is_u64 (pos n) = nat_lt n 18446744073709551616
is_u64 (negsuc n) = false

abbrev pub magnitude : ℤ → ℕ
magnitude (pos n) = n
magnitude (negsuc n) = 0

abbrev pub length_of : Tree → Option ℕ
length_of (integer i) = if is_u64 i then Some (magnitude i) else None
length_of _ = None

-- a byte string that may be absent
abbrev pub maybe_bytes : Option (List ℕ) → List Tree
maybe_bytes None = []
maybe_bytes (Some b) = bytes b ∷ []

-- SuppPubInfo: key data length, protected header and perhaps other
abbrev pub HasPublic : ℕ → Tree → PublicFields → ℕ → Type 0
HasPublic n t s k = (a b : Tree) × (t ≡ array (trees (a ∷ b ∷ maybe_bytes s.other)))
    × (length_of a ≡ Some s.key_data_length) × HasProtected n b s.protected_header k

-- the four elements, and those after them
abbrev pub four_and : Tree → Tree → Tree → Tree → Trees → Trees
four_and a u v s ts = one_more a (one_more u (one_more v (one_more s ts)))

-- COSE_KDF_Context: algorithm, PartyUInfo, PartyVInfo, SuppPubInfo and any number of SuppPrivInfo
abbrev pub HasContext : ℕ → Tree → ContextFields → ℕ → Type 0
HasContext n t c k = (a u v s : Tree) × (t ≡ array (four_and a u v s (trees (map bytes c.privates))))
    × (named_of is_algorithm is_private_use a ≡ Some c.algorithm)
    × HasParty u c.party_u × HasParty v c.party_v × HasPublic n s c.public k
