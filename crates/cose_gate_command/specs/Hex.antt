-- Fields of lines in hex.
use Rattle.std.specs.Prelude.{ℕ, List, [], ◌∷◌, codes}
use Rattle.hex.specs.Hex.{encode_lower}

-- bytes in hex, in lower case, and - if there are none
abbrev pub hex_field : List ℕ → List ℕ
hex_field [] = codes "-"
hex_field (byte ∷ bytes) = encode_lower (byte ∷ bytes)
