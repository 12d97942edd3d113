-- What is said of a run on standard error.
use Rattle.std.specs.Prelude.{◌≡◌, ℕ, List, [], ◌∷◌, ◌++◌, Option, Bool, true, false, not, nat_eq, if◌then◌else◌, flat_map}
use Rattle.std.specs.List.{list_all}
use Rattle.ciborium_ll.specs.declared.log.Log.{Log}
use Rattle.ciborium_ll.specs.declared.write.Write.{Ghosts as Writes}
use Rattle.cose_gate_core.specs.declared.report.Verdict.{Verdict}
use Rattle.cose_gate_core.specs.declared.report.Verdict.TheVariants.{Passed, Refused}
use Rattle.cose_gate_program.specs.Lines.{line_of}
use Rattle.cose_gate_program.specs.Writing.{Wrote, WroteSince, WroteSince-prop}
use Rattle.cose_gate_program.specs.declared.telling.Notice.{Notice}
use Rattle.cose_gate_program.specs.declared.telling.Notice.TheVariants as notice
use Rattle.cose_gate_command.specs.KeyFiles.{indented, reason_line}
use Rattle.cose_gate_command.specs.declared.line_writer.Items.{Items}
use Rattle.cose_gate_command.specs.declared.line_writer.Items.TheVariants as shows
use Rattle.cose_gate_command.specs.declared.line_writer.Manner.{Manner}

abbrev pub has_passed : Verdict → Bool
has_passed Passed = true
has_passed (Refused r) = false

-- which items have a line: with --summary none, with --quiet those that were refused
abbrev pub items_by : Bool → Bool → Items
items_by quiet summary =
    if summary then shows.Hidden else (if quiet then shows.Refused else shows.All)

-- an item without a line
abbrev pub hides : Items → Verdict → Bool
hides shows.All v = false
hides shows.Refused v = has_passed v
hides shows.Hidden v = true

-- a notice without a line: only items have none
abbrev pub is_silent : Items → Notice → Bool
is_silent kept (notice.Item e) = hides kept e.verdict
is_silent kept n = false

-- the line of a notice, if it has one
abbrev pub shown : Items → Notice → List ℕ
shown kept n = if is_silent kept n then [] else line_of n

-- the same, and after that of a run that doesn't begin one that says why KEYS can't be used, if it
-- can't be read for this fault, or holds these bytes
abbrev pub line_with : List ℕ → Option (List ℕ) → Items → Notice → List ℕ
line_with fault keys kept (notice.NotBegun why) =
    line_of (notice.NotBegun why) ++ reason_line fault keys why
line_with fault keys kept (notice.Item e) = shown kept (notice.Item e)
line_with fault keys kept (notice.Counts c) = shown kept (notice.Counts c)
line_with fault keys kept (notice.Stopped f) = shown kept (notice.Stopped f)

-- a text without the end of a line
abbrev pub is_line : List ℕ → Bool
is_line text = list_all (λ c. not (nat_eq c 10)) text

-- lines that begin with two blanks
pub data AreIndented : List ℕ → Type 0 where
  none : AreIndented []
  one_more : {text : List ℕ} → AreIndented text → (line : List ℕ) → is_line line ≡ true
      → AreIndented (text ++ indented line)

-- nothing was written, or if it is verbose lines that begin with two blanks
abbrev pub AddsReasons : {W F : Type 0} → Writes W F → Bool → W → W → Type 0
AddsReasons w true old new = (said : List ℕ) × AreIndented said × Wrote w old new said
AddsReasons w false old new = Wrote w old new []

-- a writer that holds nothing back goes on to hold nothing back, unless it has failed
abbrev pub StaysHandedOn : {W F : Type 0} → Writes W F → W → W → Type 0
StaysHandedOn w old new = w.failed new ≡ w.failed old → w.held old ≡ [] → w.held new ≡ []

-- the lines of these notices, in order, among lines that begin with two blanks
pub data Among : Items → List Notice → List ℕ → Type 0 where
  nothing : {kept : Items} → Among kept [] []
  line : {kept : Items} {told : List Notice} {text : List ℕ} → Among kept told text
      → (n : Notice) → Among kept (told ++ n ∷ []) (text ++ shown kept n)
  more : {kept : Items} {told : List Notice} {text said : List ℕ} → Among kept told text
      → AreIndented said → Among kept told (text ++ said)

-- what was written since a writer was as in a log: the lines of these notices, and if it is
-- verbose these among lines that begin with two blanks
abbrev pub SaysSince : {W F : Type 0} → Writes W F → Bool → Items → List W → W → List Notice
    → Type 0
SaysSince w true kept was now told =
    ∥ ((text : List ℕ) × Among kept told text × WroteSince w was now text) ∥₁
SaysSince w false kept was now told = WroteSince w was now (flat_map (shown kept) told)

SaysSince-prop : {W F : Type 0} (w : Writes W F) (verbose : Bool) (kept : Items) (was : List W)
    (now : W) (told : List Notice) → IsProp (SaysSince w verbose kept was now told)
SaysSince-prop w true kept was now told = squash₁
SaysSince-prop w false kept was now told =
    WroteSince-prop w was now (flat_map (shown kept) told)

-- the same of two logs
abbrev pub LogsSay : {W F : Type 0} → Writes W F → Manner → Log W → W → Log Notice → Type 0
LogsSay w manner was now told =
    SaysSince w manner.verbose manner.kept was.items now told.items

pub LogsSay-prop : {W F : Type 0} (w : Writes W F) (manner : Manner) (was : Log W) (now : W)
    (told : Log Notice) → IsProp (LogsSay w manner was now told)
LogsSay-prop w manner was now told =
    SaysSince-prop w manner.verbose manner.kept was.items now told.items

-- the same of all that a run says, with the line on KEYS if it isn't verbose
abbrev pub SaysAll : {W F : Type 0} → Writes W F → Bool → Items → List ℕ → Option (List ℕ) → W
    → W → List Notice → Type 0
SaysAll w true kept fault keys old new told =
    ∥ ((text : List ℕ) × Among kept told text × Wrote w old new text) ∥₁
SaysAll w false kept fault keys old new told =
    Wrote w old new (flat_map (line_with fault keys kept) told)

-- lines on a writer that is lent: how they are said, what the writer was at first, and what was
-- told since
pub record SaidLog (W : Type 0) : Type 0 where
  pub verbose : Bool
  pub kept : Items
  pub name : ℕ
  pub was : List W
  pub told : List Notice
