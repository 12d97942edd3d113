-- The text of each line that a run tells.
use Rattle.std.specs.Prelude.{ℕ, List, ◌++◌, flat_map, codes}
use Rattle.std.specs.Fmt.{decimal}
pub use Rattle.ciborium.specs.ErrorNames.{decode_text}
use Rattle.ciborium.specs.declared.de.Error.{Error}
use Rattle.ciborium.specs.declared.de.Error.TheVariants as de
pub use Rattle.coset_labels.specs.ErrorTexts.{ended, cose_text}
use Rattle.cose_gate_core.specs.ReasonNames.{refusal_name, fault_name}
use Rattle.cose_gate_core.specs.declared.gating.Counts.{Counts}
use Rattle.cose_gate_core.specs.declared.gating.GateFault.{GateFault}
use Rattle.cose_gate_core.specs.declared.gating.GateFault.TheVariants as gating
use Rattle.cose_gate_core.specs.declared.report.Entry.{Entry}
use Rattle.cose_gate_core.specs.declared.report.Verdict.{Verdict}
use Rattle.cose_gate_core.specs.declared.report.Verdict.TheVariants.{Passed, Refused}
use Rattle.cose_gate_program.specs.declared.beginning.NotBegun.{NotBegun}
use Rattle.cose_gate_program.specs.declared.beginning.NotBegun.TheVariants as unbegun
use Rattle.cose_gate_program.specs.declared.devices.InputFault.{InputFault}
use Rattle.cose_gate_program.specs.declared.devices.InputFault.TheVariants as fault
use Rattle.cose_gate_program.specs.declared.telling.Notice.{Notice}
use Rattle.cose_gate_program.specs.declared.telling.Notice.TheVariants as notice

-- the end of an item's line: of a refusal its name
abbrev pub ending : Verdict → List ℕ
ending Passed = codes ": passed\n"
ending (Refused r) = codes ": refused: " ++ (refusal_name r ++ codes "\n")

-- item N at OFFSET: passed
abbrev pub entry_line : Entry → List ℕ
entry_line e =
    codes "item " ++ (decimal e.number ++ (codes " at " ++ (decimal e.offset ++ ending e.verdict)))

-- passed P, refused R
abbrev pub counts_line : Counts → List ℕ
counts_line c =
    codes "passed " ++ (decimal c.passed ++ (codes ", refused " ++ (decimal c.refused ++ codes "\n")))

-- of a fault of the input: that it ended, or nothing if it failed
abbrev pub input_detail : Error InputFault → List ℕ
input_detail (de.Io fault.Failed) = codes ""
input_detail _ = ended

abbrev pub fault_text : GateFault InputFault → List ℕ
fault_text (gating.Decode e) =
    fault_name (gating.Decode e) ++ (codes ": " ++ decode_text (input_detail e) e)
fault_text gating.Write = fault_name {E = InputFault} gating.Write
fault_text gating.Memory = fault_name {E = InputFault} gating.Memory

-- stopped: decode: FAULT, stopped: write, or stopped: memory
abbrev pub stopped_line : GateFault InputFault → List ℕ
stopped_line f = codes "stopped: " ++ (fault_text f ++ codes "\n")

abbrev pub reason_text : NotBegun → List ℕ
reason_text unbegun.NoFile = codes "keys: cannot be read"
reason_text unbegun.NotHex = codes "aad: not hex"
reason_text (unbegun.NoKeys e) = codes "keys: " ++ cose_text e
reason_text unbegun.Memory = codes "stopped: memory"

abbrev pub not_begun_line : NotBegun → List ℕ
not_begun_line why = reason_text why ++ codes "\n"

abbrev pub line_of : Notice → List ℕ
line_of (notice.Item e) = entry_line e
line_of (notice.Counts c) = counts_line c
line_of (notice.Stopped f) = stopped_line f
line_of (notice.NotBegun why) = not_begun_line why

-- the lines of these notices, one after another
abbrev pub lines_of : List Notice → List ℕ
lines_of notices = flat_map line_of notices
