-- The arguments: [--untag] [--max BYTES] [FILE].
use Rattle.std.specs.Prelude.{ℕ, List, [], ◌∷◌, Result, Ok, Err, Option, None, Some, option_copied, Bool, codes}
use Rattle.cose_gate_command.specs.Arguments.{file_in}
use Rattle.cose_gate_command.specs.CommandLine.{Options, Word, Wrong, says, line, has_alone, value_of, others, and_then, or_wrong, read}
use Rattle.cose_gate_command.specs.TokenArguments.{number_in}
use Rattle.cose_sift.specs.declared.arguments.SiftArguments.{SiftArguments as Held}

-- what they ask for: the tags around an item come off; an item of more bytes is left out; FILE
pub record SiftArguments : Type 0 where
  pub untag : Bool
  pub max : ℕ
  pub file : Option (List ℕ)

abbrev pub sift_options : Options
sift_options = record {
  alone = codes "--untag" ∷ [];
  named = codes "--max" ∷ [];
  last = [];
}

-- BYTES, 1 MiB without it
abbrev pub max_in : Option (List ℕ) → Result ℕ Wrong
max_in None = Ok 1048576
max_in (Some w) = or_wrong (says (codes "--max: not in digits, or not below 10^16")) (number_in w)

abbrev pub of_sift : List Word → ℕ → Option (List ℕ) → SiftArguments
of_sift l max file = record { untag = has_alone (codes "--untag") l; max = max; file = file }

abbrev pub sift_in : List Word → Result SiftArguments Wrong
sift_in l = and_then (λ max. and_then (λ file. Ok (of_sift l max file)) (file_in (others l)))
    (max_in (value_of (codes "--max") l))

abbrev pub sift_arguments : List (List ℕ) → Result SiftArguments Wrong
sift_arguments ws = read sift_options sift_in (line sift_options ws)

-- the same, as the code has them
abbrev pub sift_view : Held → SiftArguments
sift_view a = record { untag = a.untag; max = a.max; file = option_copied a.file }
