-- Which tags of a COSE_Mac0 are good (RFC 9052, section 6.2; RFC 9053, section 3.1).
use Rattle.std.specs.Prelude.{ℕ, List, Bool, false, ◌&&◌, if◌then◌else◌, Option, Some, None}
use Rattle.std.specs.Str.{bytes_eq}
use Rattle.cose_hmac.specs.Hmac.{hmac}
use Rattle.coset_labels.specs.Fields.{Named}
use Rattle.cose_gate_core.specs.Fields.{HeaderFields, ProtectedFields, plain_part}
use Rattle.coset_keys.specs.Fields.{KeyFields}
use Rattle.cose_rules.specs.Headers.{are_understood}
use Rattle.cose_rules.specs.Keys.{is_entry}
use Rattle.cose_rules.specs.Labels.{header_in}
use Rattle.cose_rules.specs.Rule.{id_in}
use Rattle.cose_gate_program.specs.Keys.{hmac_256, secret_under}

-- the algorithm is HMAC with SHA-256
abbrev pub is_hmac : Option Named → Bool
is_hmac None = false
is_hmac (Some n) = is_entry hmac_256 n

abbrev pub alg_is_hmac : ProtectedFields → Bool
alg_is_hmac p = is_hmac (plain_part (header_in p)).alg

-- the message is one that may be judged: its algorithm is HMAC with SHA-256, and all that has to be
-- understood is
abbrev pub may_judge : ProtectedFields → HeaderFields → Bool
may_judge p u = alg_is_hmac p && (are_understood (header_in p) && are_understood u)

-- the secret that its tag is made with: that of the first key that fits
abbrev pub secret_for : List KeyFields → ProtectedFields → HeaderFields → Option (List ℕ)
secret_for keys p u = if may_judge p u then secret_under (id_in (p, u)) keys else None

-- the whole tag, and no other
abbrev pub is_tag_under : Option (List ℕ) → List ℕ → List ℕ → Bool
is_tag_under None covered tag = false
is_tag_under (Some key) covered tag = bytes_eq (hmac key covered) tag

abbrev pub hmac_yes : List KeyFields → ProtectedFields → HeaderFields → List ℕ → List ℕ → Bool
hmac_yes keys p u covered tag = is_tag_under (secret_for keys p u) covered tag
