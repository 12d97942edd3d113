-- Hex digits, byte by byte.
use Rattle.std.proofs.Common.{◌≡◌, ℕ, List, [], ◌∷◌, ◌++◌, ◌/◌, ◌%◌, flat_map, refl, ap}
use Rattle.std.specs.Prelude.{slice_index}
use Rattle.hex.specs.Hex.{encode_lower, encode_with, lower_digits}

abbrev pub hex_of : ℕ → List ℕ
hex_of byte = encode_lower (byte ∷ [])

pub by_bytes : (bytes : List ℕ) → flat_map hex_of bytes ≡ encode_lower bytes
unfolding encode_with
by_bytes [] = refl
by_bytes (b ∷ bs) = ap (λ (z : List ℕ). hex_of b ++ z) (by_bytes bs)

pub two_digits : (byte high low : ℕ) → high ≡ slice_index lower_digits (byte / 16) → low ≡ slice_index lower_digits (byte % 16) → high ∷ low ∷ [] ≡ hex_of byte
unfolding encode_with
two_digits byte high low e f = λ i. e i ∷ f i ∷ []
