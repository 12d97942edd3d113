-- How the program ends by its arguments.
use Rattle.std.specs.Prelude.{◌≡◌, ℕ, List, Result, Ok, Err, Option, Bool, codes}
use Rattle.ciborium_ll.specs.declared.write.Write.{Ghosts as Writes}
use Rattle.cose_gate_core.specs.Findings.{Bounds, within}
use Rattle.cose_gate_program.specs.Beginning.{aad_of}
use Rattle.cose_gate_program.specs.Judge.{says_yes}
use Rattle.cose_gate_program.specs.Program.{Devices}
use Rattle.cose_gate_program.specs.Telling.{EndsTold}
use Rattle.cose_gate_program.specs.Writing.{Wrote}
use Rattle.coset_labels.specs.Limits.{nesting, layers}
use Rattle.cose_gate_command.specs.Arguments.{Arguments}
use Rattle.cose_gate_command.specs.CommandLine.{Wrong}
use Rattle.cose_gate_command.specs.RunLines.{SaysAll, items_by}
use Rattle.cose_gate_command.specs.Usage.{wrong_lines}

-- the limits if none are chosen, of the gate or of the strict gate
abbrev pub bounds_by : Bool → Bounds
bounds_by strict = within nesting layers strict

-- the arguments say how the program is run over what KEYS holds, which can't be read for this fault
-- if it holds nothing, and the lines are those of the run; if they are wrong its status is that of
-- wrong arguments, its lines are the usage and what is wrong, and nothing was read or written
abbrev pub EndsBy : {W F : Type 0} (w : Writes W F) → Result Arguments Wrong → Option (List ℕ)
    → List ℕ → Devices → Devices → ℕ → W → W → Type 0
EndsBy w (Err wrong) keys fault old new status err err' = (status ≡ 2) × (new ≡ old)
    × Wrote w err err'
    (wrong_lines (codes "usage: cose-gate KEYS [AADHEX]\n") (codes "cose-gate") wrong)
EndsBy w (Ok a) keys fault old new status err err' =
    EndsTold (bounds_by a.strict) says_yes keys (aad_of a.aad) old new status
    (SaysAll w a.verbose (items_by a.quiet a.summary) fault keys err err')
