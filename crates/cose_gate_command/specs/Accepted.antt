-- The records of a file of lines.
use Rattle.std.specs.Prelude.{◌≡◌, ◌⊎◌, ℕ, ◌+◌, ◌-◌, ◌<◌, ◌≤◌, List, [], ◌∷◌, ◌++◌, length, take, drop, get_or, nat_eq, ◌||◌, not, Bool, true, false, Result, Ok, Err}
use Rattle.std.specs.List.{list_all}
use Rattle.hex.specs.Hex.{decode_of}
use Rattle.hex.specs.declared.error.FromHexError.{FromHexError}
use Rattle.cose_gate_core.specs.declared.about.MessageKind.{MessageKind}
use Rattle.cose_gate_records.specs.Framing.{framed}
use Rattle.cose_gate_command.specs.Read.{key_with}
use Rattle.cose_gate_command.specs.declared.not_run.NotRun.{NotRun}
use Rattle.cose_gate_command.specs.declared.not_run.NotRun.TheVariants as unrun

-- the bytes are one record
abbrev pub IsRecord : List ℕ → Type 0
IsRecord b = (kind : MessageKind) × (texts : List (List ℕ)) × (length texts ≡ 7)
    × (b ≡ framed (key_with kind texts))

-- a space, a tab or a carriage return
abbrev pub is_blank : ℕ → Bool
is_blank c = nat_eq c 32 || (nat_eq c 9 || nat_eq c 13)

abbrev pub is_black : ℕ → Bool
is_black c = not (is_blank c)

-- the last field of a line, which is empty if the line has blanks alone: it ends where blanks alone
-- follow, has no blank, and begins behind one or at the beginning
abbrev pub IsLastField : List ℕ → List ℕ → Type 0
IsLastField line field = (start end : ℕ) × (start ≤ end) × (end ≤ length line)
    × (field ≡ drop start (take end line))
    × (list_all is_blank (drop end line) ≡ true)
    × (0 < end → is_blank (get_or line (end - 1) 0) ≡ false)
    × (list_all is_black field ≡ true)
    × (0 < start → is_blank (get_or line (start - 1) 0) ≡ true)

-- the bytes of a field: one record, in hex; none if it is empty
abbrev pub IfField : List ℕ → List ℕ → Type 0
IfField [] bytes = bytes ≡ []
IfField (c ∷ field) bytes = (decode_of (c ∷ field) ≡ Ok bytes) × IsRecord bytes

-- the record of a line
abbrev pub HasRecord : List ℕ → List ℕ → Type 0
HasRecord line bytes = (field : List ℕ) × IsLastField line field × IfField field bytes

-- bytes without a line feed
abbrev pub is_one_line : List ℕ → Bool
is_one_line line = list_all (λ c. not (nat_eq c 10)) line

-- a text is n lines, each with its line feed, and these are their records, one after another
pub data Lines : (text : List ℕ) (n : ℕ) (records : List ℕ) → Type 0 where
  none : Lines [] 0 []
  more : (text line records bytes : List ℕ) (n : ℕ) → Lines text n records
      → is_one_line line ≡ true → HasRecord line bytes
      → Lines (text ++ (line ++ 10 ∷ [])) (n + 1) (records ++ bytes)

-- the records of a text: those of its lines, the last of which has no line feed
abbrev pub HasLines : List ℕ → List ℕ → Type 0
HasLines text records = (front last done bytes : List ℕ) × (n : ℕ) × Lines front n done
    × (text ≡ front ++ last) × (is_one_line last ≡ true) × HasRecord last bytes
    × (records ≡ done ++ bytes)

-- the first line of a text
abbrev pub IsFirst : List ℕ → List ℕ → Type 0
IsFirst text line = (is_one_line line ≡ true)
    × ((text ≡ line) ⊎ ((more : List ℕ) × (text ≡ line ++ 10 ∷ more)))

-- why a field is no record, in line n
abbrev pub IsBadField : NotRun → ℕ → List ℕ → Type 0
IsBadField (unrun.LineNotHex n) at field =
    (n ≡ at) × ((e : FromHexError) × (decode_of field ≡ Err e))
IsBadField (unrun.LineNoRecord n) at field =
    (n ≡ at) × ((bytes : List ℕ) × (decode_of field ≡ Ok bytes) × (IsRecord bytes → ⊥))
IsBadField why at field = ⊥

-- why a line has no record: its last field is none; or it is out of memory
abbrev pub IsBad : NotRun → ℕ → List ℕ → Type 0
IsBad why at line = (why ≡ unrun.Memory)
    ⊎ ((field : List ℕ) × IsLastField line field × IsBadField why at field)

-- why a text has no records: this line of it, the first that has none; or it is out of memory
abbrev pub HasNoLines : List ℕ → NotRun → Type 0
HasNoLines text why = (why ≡ unrun.Memory) ⊎ ((front rest line done : List ℕ) × (n : ℕ)
    × Lines front n done × (text ≡ front ++ rest) × IsFirst rest line
    × ((field : List ℕ) × IsLastField line field × IsBadField why (n + 1) field))
