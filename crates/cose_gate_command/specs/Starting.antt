-- How a program starts and ends.
use Rattle.std.specs.Prelude.{◌≡◌, ℕ, List, [], ◌∷◌, ◌++◌, Option, None, Some, Result, Ok, Err, ◌||◌, if◌then◌else◌, bytes_eq, codes}
use Rattle.std.specs.Fmt.{decimal}
use Rattle.std.specs.declared.io.ErrorKind.{ErrorKind}
use Rattle.std.specs.declared.io.ErrorKind.TheVariants as kind
use Rattle.cose_gate_command.specs.declared.not_run.NotRun.{NotRun}
use Rattle.cose_gate_command.specs.declared.not_run.NotRun.TheVariants as unrun
use Rattle.cose_gate_command.specs.declared.starting.Content.{Content}

-- why there are no arguments: it is out of memory, or one of them isn't UTF-8
abbrev pub why_no_words : ErrorKind → NotRun
why_no_words kind.OutOfMemory = unrun.Memory
why_no_words _ = unrun.Usage

-- the page that one argument asks for
abbrev pub page_of : List ℕ → List ℕ → List ℕ → Option (List ℕ)
page_of help version word =
    if bytes_eq word (codes "-h") || bytes_eq word (codes "--help") then Some help
    else (if bytes_eq word (codes "--version") then Some version else None)

-- the page that these arguments ask for: the first before -- that asks for one
abbrev pub page_or : Option (List ℕ) → Option (List ℕ) → Option (List ℕ)
page_or (Some page) more = Some page
page_or None more = more

abbrev pub page_for : List ℕ → List ℕ → List (List ℕ) → Option (List ℕ)
page_for help version [] = None
page_for help version (word ∷ words) =
    if bytes_eq word (codes "--") then None
    else page_or (page_of help version word) (page_for help version words)

-- the line on a line of ACCEPTED
abbrev pub line_fault : ℕ → List ℕ → List ℕ
line_fault number fault = codes "accepted: line " ++ (decimal number ++ fault)

-- the line that says why a program didn't run, or ended without its output; or the lines of wrong
-- arguments
abbrev pub why_line : List ℕ → NotRun → List ℕ
why_line usage unrun.Usage = usage
why_line usage unrun.NotHex = codes "aad: not hex\n"
why_line usage unrun.NoFile = codes "accepted: cannot be read\n"
why_line usage unrun.NoRecords = codes "accepted: no records\n"
why_line usage unrun.NoDigests = codes "accepted: no digests\n"
why_line usage (unrun.LineNotHex number) = line_fault number (codes ": not hex\n")
why_line usage (unrun.LineNoRecord number) = line_fault number (codes ": no record\n")
why_line usage unrun.Memory = codes "stopped: memory\n"
why_line usage unrun.Output = codes "stopped: write\n"

-- a file can't be read for this reason
abbrev pub HasNoContent : List ℕ → Result Content NotRun → Type 0
HasNoContent reason (Ok c) = (c.bytes ≡ None) × (c.fault.now ≡ reason)
HasNoContent reason (Err why) = ⊥

-- a fault of a file, in words
abbrev pub file_fault : ErrorKind → List ℕ
file_fault kind.NotFound = codes "no such file"
file_fault kind.PermissionDenied = codes "no permission"
file_fault kind.IsADirectory = codes "a folder"
file_fault _ = codes "it can't be read"

-- what reading a file with a fault of this kind gave
abbrev pub NoContentFor : ErrorKind → Result Content NotRun → Type 0
NoContentFor kind.OutOfMemory read = read ≡ Err unrun.Memory
NoContentFor k read = HasNoContent (file_fault k) read
