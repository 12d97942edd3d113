-- Whole numbers of a type, and why an item is not one of them.
use Rattle.std.specs.Prelude.{ℕ, ℤ, pos, negsuc, ◌-◌, ◌^◌, Bool, false, Option, Some, None, if◌then◌else◌, nat_lt}
use Rattle.ciborium_value.specs.declared.kind.Kind.{Kind}
use Rattle.ciborium_value.specs.declared.kind.Kind.TheVariants.{WrongType, Range}
use Rattle.ciborium_value.specs.Tree.{Tree, integer}
use Rattle.ciborium_traits.specs.Reading.{bare}

-- from 0 to 2^k - 1, for a type of k bits
abbrev pub fits_unsigned : ℕ → ℤ → Bool
fits_unsigned k (pos n) = nat_lt n (2 ^ k)
fits_unsigned k (negsuc n) = false

-- from -2^(k - 1) to 2^(k - 1) - 1; negsuc n is -1 - n
abbrev pub fits_signed : ℕ → ℤ → Bool
fits_signed k (pos n) = nat_lt n (2 ^ (k - 1))
fits_signed k (negsuc n) = nat_lt n (2 ^ (k - 1))

-- if there is no number, the item is of another type; a number that does not fit is out of range
abbrev pub within : (ℤ → Bool) → Option ℤ → Option Kind
within fits None = Some WrongType
within fits (Some i) = if fits i then None else Some Range

-- the number of an integer
abbrev pub integer_number : Tree → Option ℤ
integer_number (integer i) = Some i
integer_number _ = None

-- why an item is not of a type with these numbers, the tags around it ignored
abbrev pub number_refusal : (ℤ → Bool) → Tree → Option Kind
number_refusal fits t = within fits (integer_number (bare t))
