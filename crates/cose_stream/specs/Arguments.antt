-- The arguments of `cose-gate --stream`.
use Rattle.std.specs.Prelude.{ℕ, List, [], ◌∷◌, Result, Ok, Err, Option, option_copied, Bool, if◌then◌else◌, codes}
use Rattle.cose_gate_command.specs.Arguments.{Inputs, inputs, no_keys}
use Rattle.cose_gate_command.specs.CommandLine.{Options, Word, Wrong, says, line, has_alone, value_of, and_then, read}
use Rattle.cose_stream.specs.declared.arguments.StreamArguments.{StreamArguments as Held}

-- what they ask for: --stream [--payload PAYLOAD] [--verbose], and KEYS [AADHEX] or
-- --keys KEYS [--aad AADHEX] [FILE]
pub record StreamArguments : Type 0 where
  pub payload : Option (List ℕ)
  pub verbose : Bool
  pub keys : List ℕ
  pub aad : Option (List ℕ)
  pub file : Option (List ℕ)

abbrev pub stream_options : Options
stream_options = record {
  alone = codes "--stream" ∷ codes "--verbose" ∷ [];
  named = codes "--payload" ∷ codes "--keys" ∷ codes "--aad" ∷ [];
  last = [];
}

abbrev pub of_stream : List Word → Inputs → StreamArguments
of_stream l i = record {
  payload = value_of (codes "--payload") l;
  verbose = has_alone (codes "--verbose") l;
  keys = i.keys;
  aad = i.aad;
  file = i.file;
}

abbrev pub stream_in : List Word → Result StreamArguments Wrong
stream_in l = if has_alone (codes "--stream") l
    then and_then (λ i. Ok (of_stream l i)) (inputs (codes "--keys") no_keys l)
    else Err (says (codes "--payload is for --stream"))

abbrev pub stream_arguments : List (List ℕ) → Result StreamArguments Wrong
stream_arguments ws = read stream_options stream_in (line stream_options ws)

-- the same, as the code has them
abbrev pub stream_view : Held → StreamArguments
stream_view a = record {
  payload = option_copied a.payload;
  verbose = a.verbose;
  keys = a.keys.now;
  aad = option_copied a.aad;
  file = option_copied a.file;
}
