-- The arguments of the programs.
use Rattle.std.specs.Prelude.{◌||◌, option_map, true, false, ℕ, List, [], ◌∷◌, Result, Ok, Err, Option, None, Some, option_copied, Bool, if◌then◌else◌, bytes_eq, codes}
use Rattle.cose_gate_command.specs.CommandLine.{Options, Word, Wrong, too_many, says, line, has_alone, value_of, others, and_then, read}
use Rattle.cose_rules.specs.Claims.{TermsFields}
use Rattle.cose_gate_command.specs.TokenArguments.{has_terms, token_in, token_view}
use Rattle.cose_gate_command.specs.declared.arguments.Arguments.{Arguments as Held}
use Rattle.cose_gate_command.specs.declared.arguments.Inputs.{Inputs as HeldInputs}
use Rattle.cose_gate_command.specs.declared.options.AskArguments.{AskArguments as HeldAsk}
use Rattle.cose_gate_command.specs.declared.arguments.PassArguments.{PassArguments as HeldPass}

-- the files that a run reads, and its external data in hex
pub record Inputs : Type 0 where
  pub keys : List ℕ
  pub aad : Option (List ℕ)
  pub file : Option (List ℕ)

-- FILE; a hyphen is standard input, as without it
abbrev pub file_of : List ℕ → Option (List ℕ)
file_of file = if bytes_eq file (codes "-") then None else Some file

-- FILE, if it is the only other word
abbrev pub file_in : List (List ℕ) → Result (Option (List ℕ)) Wrong
file_in [] = Ok None
file_in (file ∷ []) = Ok (file_of file)
file_in (file ∷ word ∷ words) = Err (too_many word)

-- KEYS, and AADHEX if it isn't given by name
abbrev pub by_place : List ℕ → Option (List ℕ) → List (List ℕ) → Result Inputs Wrong
by_place missing aad [] = Err (says missing)
by_place missing aad (keys ∷ []) = Ok (record { keys = keys; aad = aad; file = None })
by_place missing (Some aad) (keys ∷ word ∷ words) = Err (too_many word)
by_place missing None (keys ∷ aad ∷ []) =
    Ok (record { keys = keys; aad = Some aad; file = None })
by_place missing None (keys ∷ aad ∷ word ∷ words) = Err (too_many word)

-- KEYS by name: the other word is FILE
abbrev pub by_name : List ℕ → Option (List ℕ) → List (List ℕ) → Result Inputs Wrong
by_name keys aad words =
    and_then (λ file. Ok (record { keys = keys; aad = aad; file = file })) (file_in words)

abbrev pub by_either : List ℕ → Option (List ℕ) → Option (List ℕ) → List (List ℕ)
    → Result Inputs Wrong
by_either missing None aad words = by_place missing aad words
by_either missing (Some keys) aad words = by_name keys aad words

-- KEYS, with this option for its name and this text if it is missing, external data and FILE
abbrev pub inputs : List ℕ → List ℕ → List Word → Result Inputs Wrong
inputs option missing l =
    by_either missing (value_of option l) (value_of (codes "--aad") l) (others l)

abbrev pub no_keys : List ℕ
no_keys = codes "KEYS is missing: a file with a key set, which cose-key makes"

-- what the arguments of cose-gate ask for: [--strict] [--verbose] [--quiet] [--summary], and KEYS
-- [AADHEX] or --keys KEYS [--aad AADHEX] [FILE]
pub record Arguments : Type 0 where
  pub strict : Bool
  pub verbose : Bool
  pub quiet : Bool
  pub summary : Bool
  pub keys : List ℕ
  pub aad : Option (List ℕ)
  pub file : Option (List ℕ)

abbrev pub gate_options : Options
gate_options = record {
  alone = codes "--strict" ∷ codes "--verbose" ∷ codes "--quiet" ∷ codes "--summary" ∷ [];
  named = codes "--keys" ∷ codes "--aad" ∷ [];
  last = [];
}

abbrev pub of_gate : List Word → Inputs → Arguments
of_gate l s = record {
  strict = has_alone (codes "--strict") l;
  verbose = has_alone (codes "--verbose") l;
  quiet = has_alone (codes "--quiet") l;
  summary = has_alone (codes "--summary") l;
  keys = s.keys;
  aad = s.aad;
  file = s.file;
}

abbrev pub gate_in : List Word → Result Arguments Wrong
gate_in l = and_then (λ s. Ok (of_gate l s)) (inputs (codes "--keys") no_keys l)

abbrev pub arguments : List (List ℕ) → Result Arguments Wrong
arguments ws = read gate_options gate_in (line gate_options ws)

-- what the arguments of cose-pass ask for: [--digests] [--strict], and ACCEPTED [AADHEX] or
-- --accepted ACCEPTED [--aad AADHEX] [FILE]
pub record PassArguments : Type 0 where
  pub digests : Bool
  pub strict : Bool
  pub accepted : List ℕ
  pub aad : Option (List ℕ)
  pub file : Option (List ℕ)

abbrev pub pass_options : Options
pass_options = record {
  alone = codes "--digests" ∷ codes "--strict" ∷ [];
  named = codes "--accepted" ∷ codes "--aad" ∷ [];
  last = [];
}

abbrev pub no_accepted : List ℕ
no_accepted = codes "ACCEPTED is missing: a file with the records that were accepted"

abbrev pub of_pass : List Word → Inputs → PassArguments
of_pass l s = record {
  digests = has_alone (codes "--digests") l;
  strict = has_alone (codes "--strict") l;
  accepted = s.keys;
  aad = s.aad;
  file = s.file;
}

abbrev pub pass_in : List Word → Result PassArguments Wrong
pass_in l = and_then (λ s. Ok (of_pass l s)) (inputs (codes "--accepted") no_accepted l)

abbrev pub pass_arguments : List (List ℕ) → Result PassArguments Wrong
pass_arguments ws = read pass_options pass_in (line pass_options ws)

-- what the arguments of cose-ask ask for: [--strict] [--lines] [--fields], and [AADHEX] or
-- --aad AADHEX [FILE]; or --keys KEYS [--strict] [--aad AADHEX] [FILE], and what is asked of tokens
pub record AskArguments : Type 0 where
  pub keys : Option (List ℕ)
  pub token : Option TermsFields
  pub strict : Bool
  pub lines : Bool
  pub fields : Bool
  pub aad : Option (List ℕ)
  pub file : Option (List ℕ)

abbrev pub ask_options : Options
ask_options = record {
  alone = codes "--strict" ∷ codes "--lines" ∷ codes "--fields" ∷ codes "--cwt"
      ∷ codes "--any-aud" ∷ [];
  named = codes "--keys" ∷ codes "--aad" ∷ codes "--at" ∷ codes "--leeway" ∷ codes "--iss"
      ∷ codes "--aud" ∷ [];
  last = codes "--need" ∷ [];
}

-- AADHEX, if it is the only other word
abbrev pub aad_in : List (List ℕ) → Result (Option (List ℕ)) Wrong
aad_in [] = Ok None
aad_in (aad ∷ []) = Ok (Some aad)
aad_in (aad ∷ word ∷ words) = Err (too_many word)

-- questions, as records or lines, of items with this external data
abbrev pub questions : List Word → Option (List ℕ) × Option (List ℕ) → AskArguments
questions l s = record {
  keys = None;
  token = None;
  strict = has_alone (codes "--strict") l;
  lines = has_alone (codes "--lines") l;
  fields = has_alone (codes "--fields") l;
  aad = s.0;
  file = s.1;
}

abbrev pub question_inputs : Option (List ℕ) → List (List ℕ)
    → Result (Option (List ℕ) × Option (List ℕ)) Wrong
question_inputs None words = and_then (λ aad. Ok (aad, None)) (aad_in words)
question_inputs (Some aad) words = and_then (λ file. Ok (Some aad, file)) (file_in words)

abbrev pub questions_in : List Word → Result AskArguments Wrong
questions_in l =
    if has_alone (codes "--cwt") l || has_terms l
    then Err (says (codes "--keys KEYS is missing: what is asked of tokens is for it"))
    else and_then (λ s. Ok (questions l s))
    (question_inputs (value_of (codes "--aad") l) (others l))

-- blocks by the rules, with these keys
abbrev pub blocks : List Word → List ℕ → Option TermsFields → Option (List ℕ) → AskArguments
blocks l keys token file = record {
  keys = Some keys;
  token = token;
  strict = has_alone (codes "--strict") l;
  lines = false;
  fields = false;
  aad = value_of (codes "--aad") l;
  file = file;
}

abbrev pub blocks_in : List ℕ → List Word → Result AskArguments Wrong
blocks_in keys l =
    if has_alone (codes "--lines") l || has_alone (codes "--fields") l
    then Err (says (codes "--lines and --fields aren't for --keys"))
    else and_then (λ token. and_then (λ file. Ok (blocks l keys token file)) (file_in (others l)))
    (token_in l)

abbrev pub asked_by : Option (List ℕ) → List Word → Result AskArguments Wrong
asked_by None l = questions_in l
asked_by (Some keys) l = blocks_in keys l

abbrev pub asked_in : List Word → Result AskArguments Wrong
asked_in l = asked_by (value_of (codes "--keys") l) l

abbrev pub ask_arguments : List (List ℕ) → Result AskArguments Wrong
ask_arguments ws = read ask_options asked_in (line ask_options ws)

-- the same, as the code has them
abbrev pub inputs_view : HeldInputs → Inputs
inputs_view s = record {
  keys = s.keys.now;
  aad = option_copied s.aad;
  file = option_copied s.file;
}

abbrev pub arguments_view : Held → Arguments
arguments_view a = record {
  strict = a.strict;
  verbose = a.verbose;
  quiet = a.quiet;
  summary = a.summary;
  keys = a.keys.now;
  aad = option_copied a.aad;
  file = option_copied a.file;
}

abbrev pub pass_view : HeldPass → PassArguments
pass_view a = record {
  digests = a.digests;
  strict = a.strict;
  accepted = a.accepted.now;
  aad = option_copied a.aad;
  file = option_copied a.file;
}

abbrev pub ask_view : HeldAsk → AskArguments
ask_view a = record {
  keys = option_copied a.keys;
  token = option_map token_view a.token;
  strict = a.strict;
  lines = a.lines;
  fields = a.fields;
  aad = option_copied a.aad;
  file = option_copied a.file;
}
