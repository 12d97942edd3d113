-- The input of a run.
use Rattle.std.specs.Prelude.{◌≡◌, ◌++◌, ℕ, List, Option, Bool, true, false, if◌then◌else◌, codes}
use Rattle.std.specs.declared.io.ErrorKind.{ErrorKind}
use Rattle.std.specs.declared.io.ErrorKind.TheVariants as kind
use Rattle.ciborium_ll.specs.declared.write.Write.{Ghosts as Writes}
use Rattle.cose_gate_program.specs.Writing.{Wrote}
use Rattle.cose_gate_command.specs.KeyFiles.{indented}
use Rattle.cose_gate_command.specs.Starting.{file_fault}
use Rattle.cose_gate_command.specs.Usage.{visible_or}
use Rattle.cose_gate_command.specs.declared.input.Input.{Input}
use Rattle.cose_gate_command.specs.declared.input.Input.TheVariants as input

-- what reads will give from here on, where it is known
abbrev pub input_remaining : {S F : Type 0} → (S → Option (List ℕ)) → (F → Option (List ℕ))
    → Input S F → Option (List ℕ)
input_remaining s f (input.Standard r) = s r
input_remaining s f (input.File r) = f r

-- it is a file
abbrev pub IsFile : {S F : Type 0} → Input S F → Type 0
IsFile (input.Standard r) = ⊥
IsFile (input.File r) = Unit {0}

-- the lines on a FILE that can't be opened for a fault of this kind, and the status
abbrev pub is_memory : ErrorKind → Bool
is_memory kind.OutOfMemory = true
is_memory _ = false

abbrev pub no_input_lines : List ℕ → ErrorKind → List ℕ
no_input_lines name k = if is_memory k then codes "stopped: memory\n"
    else (codes "input: cannot be read\n"
    ++ indented (visible_or (codes "FILE") name ++ (codes ": " ++ file_fault k)))

abbrev pub no_input_status : ErrorKind → ℕ
no_input_status k = if is_memory k then 4 else 3

-- FILE can't be opened, which is told
abbrev pub TellsNoInput : {W F : Type 0} → Writes W F → List ℕ → ℕ → W → W → Type 0
TellsNoInput w name status old new = (kind : ErrorKind) × (status ≡ no_input_status kind)
    × Wrote w old new (no_input_lines name kind)
