-- What is said of wrong arguments.
use Rattle.std.specs.Prelude.{ℕ, List, ◌++◌, length, Bool, codes, nat_eq, nat_le, ◌&&◌, if◌then◌else◌}
use Rattle.std.specs.List.{list_all}
use Rattle.cose_gate_command.specs.CommandLine.{Wrong, no_option, no_word, twice, too_many, says, wrong_view}
use Rattle.cose_gate_command.specs.KeyFiles.{indented}
use Rattle.cose_gate_command.specs.declared.usage.Usage.{Usage}

-- a character of ASCII that is seen, or a blank
abbrev pub is_visible : ℕ → Bool
is_visible c = nat_le 32 c && nat_le c 126

-- a word as a line has it: itself; or another if it is empty, or has other characters, which could
-- steer a terminal
abbrev pub visible_or : List ℕ → List ℕ → List ℕ
visible_or other word =
    if nat_eq (length word) 0 then other
    else if list_all is_visible word then word else other

-- what is wrong, in words
abbrev pub wrong_text : Wrong → List ℕ
wrong_text (no_option w) = visible_or (codes "an option") w ++ codes ": no such option"
wrong_text (no_word w) = visible_or (codes "an option") w ++ codes ": no word is after it"
wrong_text (twice w) = visible_or (codes "an option") w ++ codes " is there twice"
wrong_text (too_many w) = visible_or (codes "a word") w ++ codes " is one word too many"
wrong_text (says text) = text

-- the lines on wrong arguments of a program: its usage, what is wrong, and where its options are
abbrev pub wrong_lines : List ℕ → List ℕ → Wrong → List ℕ
wrong_lines usage program wrong = usage
    ++ (indented (wrong_text wrong) ++ indented (program ++ codes " --help has all options"))

-- the same, as the code has them
abbrev pub lines_of : Usage → List ℕ
lines_of u = wrong_lines u.line.now u.program.now (wrong_view u.wrong)
