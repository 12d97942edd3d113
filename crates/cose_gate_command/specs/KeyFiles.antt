-- Why KEYS can't be used, in words.
use Rattle.std.specs.Prelude.{ℕ, List, [], ◌∷◌, ◌++◌, Option, None, Some, Bool, false, ◌&&◌, nat_eq, nat_le, if◌then◌else◌, codes, length}
use Rattle.std.specs.List.{list_all, starts_with}
use Rattle.coset_labels.specs.declared.error.CoseError.{CoseError}
use Rattle.coset_labels.specs.declared.error.CoseError.TheVariants as cose
use Rattle.cose_gate_program.specs.declared.beginning.NotBegun.{NotBegun as Unbegun}
use Rattle.cose_gate_program.specs.declared.beginning.NotBegun.TheVariants as unbegun
use Rattle.cose_reasons.specs.Texts.{is_of_hex, is_of_base64}

-- a line that begins with two blanks
abbrev pub indented : List ℕ → List ℕ
indented text = codes "  " ++ (text ++ codes "\n")

-- the first byte is that of a map (RFC 8949, section 3.1: major type 5)
abbrev pub is_map : List ℕ → Bool
is_map [] = false
is_map (b ∷ bs) = nat_le 160 b && nat_le b 191

abbrev pub map_or_other : List ℕ → List ℕ
map_or_other bytes =
    if is_map bytes then codes "it is a map, as one COSE_Key is; a key set is an array of keys"
    else codes "cose-show shows what it holds"

-- what the fault says of a file
abbrev pub by_fault : CoseError → List ℕ → List ℕ
by_fault (cose.DecodeFailed e) bytes = codes "it isn't CBOR"
by_fault cose.ExtraneousData bytes = codes "it goes on after its first item"
by_fault e bytes = map_or_other bytes

abbrev pub text_or_fault : List ℕ → CoseError → List ℕ
text_or_fault bytes e =
    if list_all is_of_hex bytes then codes "it is text in hex, not binary"
    else if list_all is_of_base64 bytes then codes "it is text in base64, not binary"
    else by_fault e bytes

-- what a file looks like that is no key set for this fault
abbrev pub what_is : List ℕ → CoseError → List ℕ
what_is bytes e =
    if nat_eq (length bytes) 0 then codes "the file is empty"
    else if starts_with nat_eq bytes (codes "{")
    then codes "it begins with {, as a JSON Web Key does"
    else if starts_with nat_eq bytes (codes "-----BEGIN")
    then codes "it begins with -----BEGIN, as a PEM file does"
    else text_or_fault bytes e

abbrev pub bytes_or_none : Option (List ℕ) → List ℕ
bytes_or_none None = []
bytes_or_none (Some bytes) = bytes

-- the line that says why KEYS can't be used: why it can't be read, or what it looks like
abbrev pub reason_line : List ℕ → Option (List ℕ) → Unbegun → List ℕ
reason_line fault keys unbegun.NoFile = indented fault
reason_line fault keys unbegun.NotHex = []
reason_line fault keys (unbegun.NoKeys e) = indented (what_is (bytes_or_none keys) e)
reason_line fault keys unbegun.Memory = []
