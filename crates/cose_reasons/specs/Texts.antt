-- Bytes of text in hex and in base64.
use Rattle.std.specs.Prelude.{ℕ, Bool, ◌||◌, nat_eq}
use Rattle.std.specs.Char.{is_ascii_hexdigit, is_ascii_alphanumeric, is_ascii_whitespace}

-- a digit of hex, or white space
abbrev pub is_of_hex : ℕ → Bool
is_of_hex c = is_ascii_hexdigit c || is_ascii_whitespace c

-- a character of base64 in either alphabet (RFC 4648, sections 4 and 5), or white space
abbrev pub is_of_base64 : ℕ → Bool
is_of_base64 c = is_ascii_alphanumeric c || (is_ascii_whitespace c
    || (nat_eq c 43 || (nat_eq c 47 || (nat_eq c 45 || (nat_eq c 95 || nat_eq c 61)))))
