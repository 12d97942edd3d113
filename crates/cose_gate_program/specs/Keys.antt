-- Which keys serve to verify a tag by HMAC with SHA-256 (RFC 9052, section 7.1; RFC 9053, sections
-- 3.1 and 7.3).
use Rattle.std.specs.Prelude.{ℕ, ℤ, pos, List, Bool, ◌&&◌, Option, is_some, option_and_then}
use Rattle.std.specs.List.{find}
use Rattle.cose_iana.specs.Registry.{neg}
use Rattle.coset_keys.specs.Fields.{KeyFields}
use Rattle.cose_rules.specs.Algorithms.{symmetric, verify_mac}
use Rattle.cose_rules.specs.Keys.{allows, bytes_at, has_id, is_entry, permits}

-- HMAC with SHA-256 whose tag is whole
abbrev pub hmac_256 : ℤ
hmac_256 = pos 5

-- the secret (k), which may be empty
abbrev pub secret : KeyFields → Option (List ℕ)
secret k = bytes_at (neg 1) k.params

-- a key serves if it is symmetric and has a secret, and is for this algorithm and to verify MACs, or
-- for any
abbrev pub serves : KeyFields → Bool
serves k =
    is_entry symmetric k.kty
    && (is_some (secret k) && (allows hmac_256 k.alg && permits verify_mac k.key_ops))

-- it fits a message with this key id, which may be empty
abbrev pub fits : List ℕ → KeyFields → Bool
fits id k = has_id id k && serves k

-- the first key that fits
abbrev pub first_fit : List ℕ → List KeyFields → Option KeyFields
first_fit id keys = find (fits id) keys

-- the secret of the first key that fits
abbrev pub secret_under : List ℕ → List KeyFields → Option (List ℕ)
secret_under id keys = option_and_then secret (first_fit id keys)
