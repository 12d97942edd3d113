-- Numbers of 128 bits.
use Rattle.std.specs.Prelude.{ℕ, ℤ, pos, negsuc, Bool, false, length, Option, Some, None, if◌then◌else◌, nat_eq, nat_le, ◌&&◌, ◌||◌}
use Rattle.ciborium_value.specs.Numbers.{tree_number}
use Rattle.ciborium_value.specs.Tree.{Tree, integer, bytes, tag}
use Rattle.ciborium_traits.specs.declared.wide.Whole.{Whole}
use Rattle.ciborium_traits.specs.declared.wide.Whole.TheVariants.{Positive, Negative}

-- tag n over this item is a bignum that 128 bits may hold: tag 2 or 3 directly over at most 16
-- bytes
abbrev pub is_bignum : ℕ → Tree → Bool
is_bignum n (bytes b) = (nat_eq n 2 || nat_eq n 3) && nat_le (length b) 16
is_bignum n _ = false

-- the number of an integer or of such a bignum, other tags around it ignored
abbrev pub wide_number : Tree → Option ℤ
wide_number (integer i) = Some i
wide_number (tag n t) = if is_bignum n t then tree_number (tag n t) else wide_number t
wide_number _ = None

-- the number that a value of the code is
abbrev pub whole : Whole → ℤ
whole (Positive n) = pos n
whole (Negative n) = negsuc n
