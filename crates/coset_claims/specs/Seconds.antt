-- How a time stands to a whole number of seconds (RFC 8392, section 2). The bits of a float are as
-- IEEE 754 has them (RFC 8949, section 3.3 and appendix D).
use Rattle.std.specs.Prelude.{ℕ, zero, suc, ◌+◌, ◌-◌, ◌*◌, ◌/◌, ◌%◌, ◌^◌, ℤ, pos, neg_ℤ, ◌*ℤ◌, Bool, true, false, Option, Some, None, nat_eq, if◌then◌else◌}
use Rattle.std.specs.Ordering.{int_cmp}
use Rattle.std.specs.declared.cmp.Ordering.{Ordering}
use Rattle.std.specs.declared.cmp.Ordering.TheVariants.{Less, Greater}
use Rattle.ciborium_ll.specs.declared.hdr.Float.{Float}
use Rattle.ciborium_ll.specs.declared.hdr.Float.TheVariants.{Half, Single, Double}
use Rattle.coset_claims.specs.Fields.{TimeFields, whole_seconds, fractional_seconds}

-- a multiple of 2 ^ -k; an infinity, the negative one if it is true; or no number
pub data Amount : Type 0 where
  multiple : ℤ → ℕ → Amount
  infinite : Bool → Amount
  no_number : Amount

abbrev pub signed : Bool → ℕ → ℤ
signed true n = neg_ℤ (pos n)
signed false n = pos n

-- how many of the least units a number is, by its exponent and its fraction of so many bits: a one
-- stands before the fraction, if the exponent isn't 0
abbrev pub units : ℕ → ℕ → ℕ → ℕ
units places zero fraction = fraction
units places (suc exponent) fraction = (2 ^ places + fraction) * 2 ^ exponent

-- what a float is by its sign, an exponent of so many bits, and a fraction of so many: no finite
-- number, if all bits of the exponent are ones
abbrev pub number : ℕ → ℕ → Bool → ℕ → ℕ → Amount
number width places negative exponent fraction =
    if nat_eq exponent (2 ^ width - 1)
    then if nat_eq fraction 0 then infinite negative else no_number
    else multiple (signed negative (units places exponent fraction)) (2 ^ (width - 1) - 2 + places)

-- the same by all its bits: first the sign, last the fraction
abbrev pub number_by : ℕ → ℕ → ℕ → Amount
number_by width places bits = number width places (nat_eq (bits / 2 ^ (width + places)) 1)
    (bits / 2 ^ places % 2 ^ width) (bits % 2 ^ places)

abbrev pub number_of : Float → Amount
number_of (Half bits) = number_by 5 10 bits
number_of (Single bits) = number_by 8 23 bits
number_of (Double bits) = number_by 11 52 bits

-- how it stands to a whole number; what is no number stands to none
abbrev pub against : Amount → ℤ → Option Ordering
against (multiple i k) n = Some (int_cmp i (n *ℤ pos (2 ^ k)))
against (infinite true) n = Some Less
against (infinite false) n = Some Greater
against no_number n = None

abbrev pub time_against : TimeFields → ℤ → Option Ordering
time_against (whole_seconds i) n = Some (int_cmp i n)
time_against (fractional_seconds f) n = against (number_of f) n
