-- The values of whole numbers (RFC 8949, sections 3.1 and 3.4.3).
use Rattle.std.specs.Prelude.{ℕ, ℤ, pos, negsuc, ◌≤ℤ◌, ◌<◌, ◌^◌, List, Option, Some, None, if◌then◌else◌, nat_eq, nat_lt}
use Rattle.std.specs.Int.{w128, to_be_bytes}
use Rattle.ciborium_value.specs.Tree.{Tree, integer, bytes, tag}
use Rattle.ciborium_value.specs.Folding.{big_endian_from, without_zeros}

-- from -2^64 to 2^64 - 1, what an integer's head can say
abbrev pub IsHeld : ℤ → Type 0
IsHeld i = (negsuc 0xffff_ffff_ffff_ffff ≤ℤ i) × (i ≤ℤ pos 0xffff_ffff_ffff_ffff)

-- from -2^127 to 2^128 - 1
abbrev pub IsWide : ℤ → Type 0
IsWide (pos n) = n < 2 ^ 128
IsWide (negsuc n) = n < 2 ^ 127

-- the fewest bytes of a number below 2^128, the highest first
abbrev pub fewest_bytes : ℕ → List ℕ
fewest_bytes n = without_zeros (to_be_bytes w128 n)

-- an integer if its head can say the number, else a bignum: tag 2 over n, and tag 3 for -1 - n
abbrev pub number_tree : ℤ → Tree
number_tree (pos n) = if nat_lt n (2 ^ 64) then integer (pos n) else tag 2 (bytes (fewest_bytes n))
number_tree (negsuc n) = if nat_lt n (2 ^ 64) then integer (negsuc n) else tag 3 (bytes (fewest_bytes n))

-- the number of an integer or a bignum, whatever zeros are in front
abbrev pub tree_number : Tree → Option ℤ
tree_number (integer i) = Some i
tree_number (tag n (bytes b)) =
    if nat_eq n 2 then Some (pos (big_endian_from 0 b)) else if nat_eq n 3 then Some (negsuc (big_endian_from 0 b)) else None
tree_number _ = None
