-- Which tags are good by HMAC with SHA-256: the whole one, or its first 64 bits (RFC 9053, section 3.1).
use Rattle.std.specs.Prelude.{ℕ, ℤ, pos, List, Option, None, Some, Bool, false, take, if◌then◌else◌}
use Rattle.std.specs.Ordering.{int_eq}
use Rattle.std.specs.Str.{bytes_eq}
use Rattle.cose_hmac.specs.Hmac.{hmac}

-- by the algorithm with this number: HMAC 256/64 (4), HMAC 256/256 (5)
abbrev pub is_tag_by : ℤ → List ℕ → List ℕ → Bool
is_tag_by algorithm whole tag =
    if int_eq algorithm (pos 4) then bytes_eq (take 8 whole) tag
    else if int_eq algorithm (pos 5) then bytes_eq whole tag
    else false

abbrev pub is_tag_under : Option (List ℕ) → ℤ → List ℕ → List ℕ → Bool
is_tag_under None algorithm covered tag = false
is_tag_under (Some k) algorithm covered tag = is_tag_by algorithm (hmac k covered) tag
