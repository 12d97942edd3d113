-- Texts of one character.
use Rattle.std.specs.Prelude.{Bool, false, ◌&&◌, length, chars, nat_eq}
use Rattle.std.specs.Str.{is_utf8}
use Rattle.ciborium_value.specs.Tree.{Tree, text}

-- the UTF-8 of one character
abbrev pub is_character : Tree → Bool
is_character (text b) = is_utf8 b && nat_eq (length (chars b)) 1
is_character _ = false
