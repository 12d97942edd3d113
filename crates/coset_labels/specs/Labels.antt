-- Which label or registered name a value is, which fault it has as one, and which value stands for
-- one (RFC 9052, sections 1.4 and 3.1).
use Rattle.std.specs.Prelude.{◌≡◌, ℤ, pos, negsuc, ◌⊎◌, Bool, true, false, if◌then◌else◌, nat_lt, Option, Some, None}
use Rattle.ciborium_value.specs.Tree.{Tree, integer, text}
use Rattle.coset_labels.specs.Fields.{LabelFields, number, words, Named, private_use, assigned, named}
use Rattle.coset_labels.specs.Faults.{CoseFault, out_of_range, unexpected, unregistered, unregistered_private}

-- the integer lies in -2^63 to 2^63 - 1
abbrev pub is_i64 : ℤ → Bool
is_i64 (pos n) = nat_lt n 9223372036854775808
is_i64 (negsuc n) = nat_lt n 9223372036854775808

-- the label that a value is
abbrev pub label_of : Tree → Option LabelFields
label_of (integer i) = if is_i64 i then Some (number i) else None
label_of (text b) = Some (words b)
label_of _ = None

-- the value that stands for a label
abbrev pub label_tree : LabelFields → Tree
label_tree (number i) = integer i
label_tree (words b) = text b

-- no label: an integer outside 64 bits, or neither integer nor text
abbrev pub WrongLabel : Tree → CoseFault → Type 0
WrongLabel (integer i) e = (is_i64 i ≡ false) × (e ≡ out_of_range)
WrongLabel (text b) e = ⊥
WrongLabel _ e = e ≡ unexpected

-- a number of a registry
abbrev pub registered_number : (ℤ → Bool) → ℤ → Option Named
registered_number is_registered i = if is_registered i then Some (assigned i) else None

-- a registered number or a text
abbrev pub registered_of : (ℤ → Bool) → Tree → Option Named
registered_of is_registered (integer i) = if is_i64 i then registered_number is_registered i else None
registered_of is_registered (text b) = Some (named b)
registered_of is_registered _ = None

-- no registered number and no text
abbrev pub WrongRegistered : (ℤ → Bool) → Tree → CoseFault → Type 0
WrongRegistered is_registered (integer i) e = ((is_i64 i ≡ false) × (e ≡ out_of_range))
    ⊎ ((is_i64 i ≡ true) × (is_registered i ≡ false) × (e ≡ unregistered))
WrongRegistered is_registered (text b) e = ⊥
WrongRegistered is_registered _ e = e ≡ unexpected

-- a number of a registry, or of its private range
abbrev pub named_number : (ℤ → Bool) → (ℤ → Bool) → ℤ → Option Named
named_number is_registered is_private i = if is_registered i then Some (assigned i) else if is_private i then Some (private_use i) else None

-- a registered number, one for private use, or a text
abbrev pub named_of : (ℤ → Bool) → (ℤ → Bool) → Tree → Option Named
named_of is_registered is_private (integer i) = if is_i64 i then named_number is_registered is_private i else None
named_of is_registered is_private (text b) = Some (named b)
named_of is_registered is_private _ = None

-- no registered number, none for private use, and no text
abbrev pub WrongNamed : (ℤ → Bool) → (ℤ → Bool) → Tree → CoseFault → Type 0
WrongNamed is_registered is_private (integer i) e = ((is_i64 i ≡ false) × (e ≡ out_of_range))
    ⊎ ((is_i64 i ≡ true) × (is_registered i ≡ false) × (is_private i ≡ false) × (e ≡ unregistered_private))
WrongNamed is_registered is_private (text b) e = ⊥
WrongNamed is_registered is_private _ e = e ≡ unexpected

-- the value that stands for a name
abbrev pub named_tree : Named → Tree
named_tree (private_use i) = integer i
named_tree (assigned i) = integer i
named_tree (named b) = text b
