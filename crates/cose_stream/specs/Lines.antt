-- The lines and the status of an end.
use Rattle.std.specs.Prelude.{ℕ, List, [], ◌++◌, Option, None, Some, Bool, true, false, Result, Ok, Err, codes, nat_eq, if◌then◌else◌}
use Rattle.ciborium_ll.specs.declared.write.Write.{Ghosts as Writes}
use Rattle.cose_gate_program.specs.Beginning.{status_of}
use Rattle.cose_gate_program.specs.Lines.{not_begun_line, stopped_line}
use Rattle.cose_gate_program.specs.Writing.{Wrote}
use Rattle.cose_gate_command.specs.KeyFiles.{indented, reason_line}
use Rattle.cose_gate_command.specs.RunLines.{AreIndented}
use Rattle.cose_gate_command.specs.Usage.{visible_or}
use Rattle.cose_stream.specs.declared.under.NoFile.{NoFile}
use Rattle.cose_stream.specs.declared.under.NoFile.TheVariants as none
use Rattle.cose_stream.specs.declared.stop.StreamRefusal.{StreamRefusal}
use Rattle.cose_stream.specs.declared.stop.StreamRefusal.TheVariants as refusal
use Rattle.cose_stream.specs.declared.stop.StreamStop.{StreamStop}
use Rattle.cose_stream.specs.declared.stop.StreamStop.TheVariants as stop

abbrev pub refused_line : StreamRefusal → List ℕ
refused_line refusal.NotTagged = codes "refused: NotTagged\n"
refused_line refusal.OtherTag = codes "refused: OtherTag\n"
refused_line refusal.Shape = codes "refused: Shape\n"
refused_line refusal.Detached = codes "refused: Detached\n"
refused_line refusal.Unsized = codes "refused: Unsized\n"
refused_line refusal.Judged = codes "refused: Judged\n"
refused_line refusal.ExtraneousData = codes "refused: ExtraneousData\n"

-- the name of FILE as a line has it
abbrev pub file_name : Option (List ℕ) → List ℕ
file_name None = codes "FILE"
file_name (Some name) = visible_or (codes "FILE") name

-- why there is no file for the payload: what is said after the name of FILE
abbrev pub no_file_text : NoFile → List ℕ
no_file_text none.Dash = codes ": a payload goes into a file, once its MAC is checked"
no_file_text none.Other = codes ": it is there, and no regular file"
no_file_text none.Unknown = codes ": it can't be told whether it is there"
no_file_text none.NoFolder = codes ".part: no such folder"
no_file_text none.NoPermission = codes ".part: no permission"
no_file_text none.NotMade = codes ".part: it can't be made"
no_file_text none.Taken = codes ".part: it is there, and so are .part1 to .part99"

-- the line of an end
abbrev pub end_line : Result (Unit {0}) StreamStop → List ℕ
end_line (Ok u) = codes "passed\n"
end_line (Err (stop.NotBegun why)) = not_begun_line why
end_line (Err (stop.Refused why)) = refused_line why
end_line (Err (stop.Stopped why)) = stopped_line why
end_line (Err (stop.NoFile why)) = codes "stopped: write\n"

-- the line after it, which says why KEYS can't be used, or why there is no file for the payload
abbrev pub why_line : List ℕ → Option (List ℕ) → Option (List ℕ) → Result (Unit {0}) StreamStop
    → List ℕ
why_line fault keys payload (Err (stop.NotBegun why)) = reason_line fault keys why
why_line fault keys payload (Err (stop.NoFile why)) =
    indented (file_name payload ++ no_file_text why)
why_line fault keys payload e = []

-- the line if so many parts of other runs are there
abbrev pub others_line : Option (List ℕ) → ℕ → List ℕ
others_line payload n =
    if nat_eq n 0 then []
    else indented (file_name payload
    ++ codes ".part is there: another run is at it, or was killed")

-- what is said of an end: its line, and why; or, if it is verbose, lines that begin with two blanks
abbrev pub SaysEnd : {W F : Type 0} → Writes W F → Bool → List ℕ → Option (List ℕ)
    → Option (List ℕ) → Result (Unit {0}) StreamStop → ℕ → W → W → Type 0
SaysEnd w true fault keys payload end others old new =
    (said : List ℕ) × (AreIndented said × Wrote w old new (end_line end ++ said))
SaysEnd w false fault keys payload end others old new = Wrote w old new
    (end_line end ++ (why_line fault keys payload end ++ others_line payload others))

abbrev pub end_status : Result (Unit {0}) StreamStop → ℕ
end_status (Ok u) = 0
end_status (Err (stop.NotBegun why)) = status_of why
end_status (Err (stop.Refused why)) = 1
end_status (Err (stop.Stopped why)) = 4
end_status (Err (stop.NoFile why)) = 4
