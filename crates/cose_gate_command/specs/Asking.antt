-- How cose-ask ends.
use Rattle.std.specs.Prelude.{◌≡◌, ℕ, ◌+◌, ◌<◌, List, [], ◌∷◌, flat_map, take, Option, None, Some, MatchOption, false, true, Result, Ok, Err}
use Rattle.std.specs.Io.KnownBytes.{Appends}
use Rattle.ciborium_ll.specs.Device.{AppendsFront}
use Rattle.ciborium_ll.specs.declared.read.Read.{Ghosts as Reads}
use Rattle.ciborium_ll.specs.declared.write.Write.{Ghosts as Writes}
use Rattle.coset_labels.specs.Reading.{HasItem}
use Rattle.coset_keys.specs.Fields.{KeyFields}
use Rattle.coset_keys.specs.Keys.{HasKeySet}
use Rattle.cose_rules.specs.Claims.{TermsFields}
use Rattle.cose_gate_core.specs.Findings.{Bounds}
use Rattle.cose_gate_core.specs.Questions.{Question}
use Rattle.cose_gate_program.specs.Beginning as begin
use Rattle.cose_gate_program.specs.Beginning.{aad_of, BeginsNot}
use Rattle.cose_gate_program.specs.Lines.{line_of, lines_of}
use Rattle.cose_gate_program.specs.Program.{Devices}
use Rattle.cose_gate_program.specs.Telling.{RanTold, writes}
use Rattle.cose_gate_program.specs.Writing.{Wrote}
use Rattle.cose_gate_program.specs.declared.beginning.NotBegun.{NotBegun as Unbegun}
use Rattle.cose_gate_program.specs.declared.telling.Notice.{Notice}
use Rattle.cose_gate_program.specs.declared.telling.Notice.TheVariants as notice
use Rattle.cose_gate_command.specs.Arguments.{AskArguments}
use Rattle.cose_gate_command.specs.Ends.{bounds_by}
use Rattle.cose_gate_command.specs.Lines.{form_of, told_as}
use Rattle.cose_gate_command.specs.RunLines.{SaysAll}
use Rattle.cose_gate_command.specs.declared.line_writer.Items.TheVariants as shows
use Rattle.cose_gate_command.specs.declared.not_run.NotRun.{NotRun}
use Rattle.cose_gate_command.specs.declared.not_run.NotRun.TheVariants as unrun
use Rattle.cose_gate_command.specs.declared.options.Form.{Form}
use Rattle.cose_ruled.specs.Running.{RanAsking}

-- the status if a program doesn't run, or ends without its output
abbrev pub status_of : NotRun → ℕ
status_of unrun.Usage = 2
status_of unrun.NotHex = 2
status_of unrun.Memory = 4
status_of unrun.Output = 4
status_of e = 3

-- AADHEX is no hex, or it is out of memory
abbrev pub IsNoHexAad : Option (List ℕ) → NotRun → Type 0
IsNoHexAad aad unrun.NotHex = aad_of aad ≡ None
IsNoHexAad aad unrun.Memory = Unit {0}
IsNoHexAad aad why = ⊥

-- why it isn't run with these arguments: there are none, or AADHEX is no hex, or it is out of
-- memory; with --keys other lines say so
abbrev pub AsksNot : Option AskArguments → NotRun → Type 0
AsksNot None why = why ≡ unrun.Usage
AsksNot (Some a) why = (a.keys ≡ None) × IsNoHexAad a.aad why

-- a reader alone: its output goes nowhere
abbrev pub reading : {R E : Type 0} → Reads R E → R → Devices
reading r input = record {
  left = r.left input;
  written = None;
  read_failures = r.failed input;
  write_failures = 0;
}

-- the lines of the items among these notices
abbrev pub item_line : Notice → List ℕ
item_line (notice.Item e) = line_of (notice.Item e)
item_line other = []

abbrev pub item_lines : List Notice → List ℕ
item_lines notices = flat_map item_line notices

-- a text was written, or a beginning of it and then the writer failed
abbrev pub SentText : {T E W F : Type 0} → Writes W F → W → W → Result T E → List ℕ → Type 0
SentText w out out' (Ok x) text =
    (w.failed out' ≡ w.failed out) × Appends (w.written out) (w.written out') text
SentText w out out' (Err e) text = (w.failed out' ≡ w.failed out + 1)
    × AppendsFront (w.written out) (w.written out') text

-- out of memory the texts of so many of these questions were written, the first ones; if the output
-- failed, a beginning of the texts of all
abbrev pub FailsAsking : {W F : Type 0} → Writes W F → Form → W → W → NotRun → List Question → Type 0
FailsAsking w form out out' unrun.Memory asked = (n : ℕ) × (w.failed out' ≡ w.failed out)
    × Appends (w.written out) (w.written out') (flat_map (told_as form) (take n asked))
FailsAsking w form out out' unrun.Output asked =
    SentText {T = ℕ} {E = NotRun} w out out' (Err unrun.Output) (flat_map (told_as form) asked)
FailsAsking w form out out' why asked = ⊥

-- the texts of these questions were written, or it fails so
abbrev pub Hands : {T W F : Type 0} → Writes W F → Form → W → W → Result T NotRun → List Question
    → Type 0
Hands w form out out' (Ok s) asked =
    SentText {E = NotRun} w out out' (Ok s) (flat_map (told_as form) asked)
Hands w form out out' (Err why) asked = FailsAsking w form out out' why asked

-- the status of the run, unless its output wasn't written
abbrev pub or_status : ℕ → Result (Unit {0}) NotRun → Result ℕ NotRun
or_status s (Ok u) = Ok s
or_status s (Err why) = Err why

-- the lines of a run, without the last one if it ended without its output
abbrev pub lines_if : Result ℕ NotRun → List Notice → List ℕ
lines_if (Ok s) notices = lines_of notices
lines_if (Err why) notices = item_lines notices

-- the status of the run, if it ended with its output
abbrev pub IsStatus : Result ℕ NotRun → ℕ → Type 0
IsStatus (Ok s) status = s ≡ status
IsStatus (Err why) status = Unit {0}

-- the gate ran over the input, with a judge that says yes to each question: the records of the
-- questions that were asked, or their lines, are handed out; the last line is written if all were
abbrev pub RanAsks : {W F E G : Type 0} (w : Writes W F) (e : Writes E G) → Bounds → Form → List ℕ
    → Devices → Devices → W → W → E → E → Result ℕ NotRun → Type 0
RanAsks w e limits form aad old new out out' err err' result = (status : ℕ)
    × IsStatus result status × RanTold limits (λ _. true) aad old new status
    (λ asked. Hands w form out out' result asked)
    (λ notices. Wrote e err err' (lines_if result notices))

-- a reader, and how often a writer has failed
abbrev pub with_failures : {W F : Type 0} → Writes W F → W → Devices → Devices
with_failures w out d = record d { write_failures = w.failed out }

-- how cose-ask --keys ends with what tokens it takes, what KEYS holds, which can't be read for this
-- fault if it holds nothing, and the external data: the gate asked by the rules under the keys of
-- KEYS, its blocks are handed out, and its lines written; or the run doesn't begin, as that of
-- cose-gate, and nothing was read or handed out
pub data AsksByRules {W F E G : Type 0} (w : Writes W F) (e : Writes E G) (limits : Bounds)
    (token : Option TermsFields) (keys : Option (List ℕ)) (fault : List ℕ) (aad : Option (List ℕ))
    (old new : Devices)
    (out out' : W) (err err' : E) (status : ℕ) : Type 0 where
  not_begun : (why : Unbegun) → BeginsNot keys aad why → status ≡ begin.status_of why → new ≡ old
      → out' ≡ out → SaysAll e false shows.All fault keys err err' (notice.NotBegun why ∷ [])
      → AsksByRules w e limits token keys fault aad old new out out' err err' status
  after_run : (b d : List ℕ) → keys ≡ Some b → aad ≡ Some d
      → (ks : List KeyFields) → HasItem HasKeySet b ks
      → RanAsking w limits token ks d (with_failures w out old) (with_failures w out' new) out out'
      status (writes e err err')
      → AsksByRules w e limits token keys fault aad old new out out' err err' status

-- how cose-ask ends with these arguments, and what KEYS holds if they name it: that, with --keys or
-- without; or it isn't run, and nothing was read, written or told
pub data AskEnds {W F E G : Type 0} (w : Writes W F) (e : Writes E G) (a : Option AskArguments)
    (keys : Option (List ℕ)) (fault : List ℕ) (old new : Devices) (out out' : W) (err err' : E)
    (result : Result ℕ NotRun) : Type 0 where
  not_run : (why : NotRun) → AsksNot a why → result ≡ Err why → new ≡ old → out' ≡ out
      → err' ≡ err → AskEnds w e a keys fault old new out out' err err' result
  after_run : (b : AskArguments) → a ≡ Some b → b.keys ≡ None → (d : List ℕ)
      → aad_of b.aad ≡ Some d
      → RanAsks w e (bounds_by b.strict) (form_of b.lines b.fields) d old new out out' err err' result
      → AskEnds w e a keys fault old new out out' err err' result
  by_rules : (b : AskArguments) → a ≡ Some b → (name : List ℕ) → b.keys ≡ Some name
      → (status : ℕ) → result ≡ Ok status
      → AsksByRules w e (bounds_by b.strict) b.token keys fault (aad_of b.aad) old new out out'
      err err' status
      → AskEnds w e a keys fault old new out out' err err' result

-- a run with these arguments went through its input: with --keys that of status 0 or 1
abbrev pub RanThrough : Option AskArguments → ℕ → Type 0
RanThrough None status = Unit {0}
RanThrough (Some a) status = MatchOption a.keys (Unit {0}) (λ _. status < 2)
