-- How a payload is put into its file.
use Rattle.std.specs.Prelude.{◌≡◌, ◌<◌, ◌⊎◌, ℕ, zero, suc, ◌+◌, ◌/◌, ◌%◌, List, [], ◌∷◌, ◌++◌, Option, None, Some, Bool, true, false, Result, Ok, Err, is_ok, bytes_eq, codes, if◌then◌else◌, ltb, nat_eq}
use Rattle.ciborium_ll.specs.declared.read.Read.{Ghosts as Reading}
use Rattle.ciborium_ll.specs.declared.write.Write.{Ghosts as Writing}
use Rattle.cose_gate.specs.GateFault.TheVariants as gating
use Rattle.cose_stream.specs.Folder.{FolderStep, saw, made, synced, renamed, removed, Does, IsEmpty}
use Rattle.cose_stream.specs.Streams.{Streams}
use Rattle.cose_stream.specs.declared.stop.StreamStop.{StreamStop}
use Rattle.cose_stream.specs.declared.stop.StreamStop.TheVariants as stop
use Rattle.cose_stream.specs.declared.under.NoFile.{NoFile}
use Rattle.cose_stream.specs.declared.under.NoFile.TheVariants as none
use Rattle.cose_stream.specs.declared.under.NotMade.{NotMade}
use Rattle.cose_stream.specs.declared.under.NotMade.TheVariants as unmade
use Rattle.cose_stream.specs.declared.under.Under.{Under}
use Rattle.cose_stream.specs.declared.under.Under.TheVariants as under

-- the number of a part: none of the first, else its digits
abbrev pub number_text : ℕ → List ℕ
number_text n =
    (if ltb n 10 then [] else (48 + n / 10) ∷ []) ++ (if nat_eq n 0 then [] else (48 + n % 10) ∷ [])

-- the names of the files that a payload may be in before its message is checked: FILE.part, and
-- FILE.part1 to FILE.part99
abbrev pub part_name : List ℕ → ℕ → List ℕ
part_name name n = name ++ (codes ".part" ++ number_text n)

-- the first n of these are there, so that none of them could be made
abbrev pub are_there : List ℕ → ℕ → List FolderStep
are_there name zero = []
are_there name (suc n) = are_there name n ++ made (part_name name n) (Some unmade.IsThere) ∷ []

-- what is done of a part that this run has made: after a yes it is on the disk, and then in its
-- place; else, or if one of these fails, it is removed, or that fails too
abbrev pub KeepsPart : Bool → Bool → List ℕ → List ℕ → Option (List ℕ) → Option (List FolderStep)
    → Option (List FolderStep) → Type 0
KeepsPart true true part name written old new =
    Does old new (synced written true ∷ renamed part name true ∷ [])
KeepsPart true false part name written old new = (is_removed : Bool)
    × (Does old new (synced written false ∷ removed part is_removed ∷ [])
    ⊎ Does old new (synced written true ∷ renamed part name false ∷ removed part is_removed ∷ []))
KeepsPart false true part name written old new = ⊥
KeepsPart false false part name written old new = (is_removed : Bool)
    × Does old new (removed part is_removed ∷ [])

-- why a payload can't be put where this is, if it can't
abbrev pub under_refusal : Under → Option NoFile
under_refusal under.Nothing = None
under_refusal under.File = None
under_refusal under.Other = Some none.Other
under_refusal under.Unknown = Some none.Unknown

-- the same with this name
abbrev pub refusal_of : List ℕ → Under → Option NoFile
refusal_of name it = if bytes_eq name (codes "-") then Some none.Dash else under_refusal it

-- why there is no part: another fault than that it is there
abbrev pub no_part : NotMade → NoFile
no_part unmade.IsThere = none.Taken
no_part unmade.NoFolder = none.NoFolder
no_part unmade.NoPermission = none.NoPermission
no_part unmade.Fault = none.NotMade

-- what was done so that no part is there: so many names were there, and then making one failed, or
-- they were all, or it is out of memory
pub data NoPart (name : List ℕ) : List FolderStep → StreamStop → Type 0 where
  fails : (n : ℕ) → n < 100 → (why : NotMade)
      → NoPart name (are_there name n ++ made (part_name name n) (Some why) ∷ [])
      (stop.NoFile (no_part why))
  taken : NoPart name (are_there name 100) (stop.NoFile none.Taken)
  memory : (n : ℕ) → n < 100 → NoPart name (are_there name n) (stop.Stopped gating.Memory)

-- how the run ended, if its part was put into its place
abbrev pub put_end : Bool → Result (Unit {0}) StreamStop → Result (Unit {0}) StreamStop
put_end true (Ok u) = Ok u
put_end false (Ok u) = Err (stop.Stopped gating.Write)
put_end is_put (Err why) = Err why

-- the message was checked as `Streams` says, its payload went into the file `part`, and this was
-- put into its place, or removed
pub data FillsFile {R E W F : Type 0} (r : Reading R E) (w : Writing W F) (keys aad : Option (List ℕ))
    (name part : List ℕ) (old new : R) (file : W) (done done' : Option (List FolderStep))
    (end : Result (Unit {0}) StreamStop) : Type 0 where
  filled : (file' : W) (checked : Result (Unit {0}) StreamStop) (is_put : Bool)
      → Streams r w keys aad old new file file' checked
      → KeepsPart (is_ok checked) is_put part name (w.written file') done done'
      → end ≡ put_end is_put checked → FillsFile r w keys aad name part old new file done done' end

-- how the check ends whose payload goes into the file `name`, and how many parts of other runs it
-- has passed over. Either there is no file for it, and nothing was read; or the message was checked
-- as `Streams` says, and its payload went into a part that this run has made and that was empty,
-- and after `Ok` and only then this part, as it was written and is on the disk, is in the place of
-- `name`. After each other end the part was removed, or that failed. Nothing else is done.
pub data StreamsInto {R E W F : Type 0} (r : Reading R E) (w : Writing W F)
    (keys aad : Option (List ℕ)) (name : List ℕ) (old new : R) (done done' : Option (List FolderStep))
    (end : Result (Unit {0}) StreamStop) (others : ℕ) : Type 0 where
  refused : (under : Under) (why : NoFile) → refusal_of name under ≡ Some why
      → end ≡ Err (stop.NoFile why) → new ≡ old → Does done done' (saw name under ∷ [])
      → others ≡ 0 → StreamsInto r w keys aad name old new done done' end others
  partless : (under : Under) (steps : List FolderStep) (why : StreamStop)
      → refusal_of name under ≡ None → NoPart name steps why
      → end ≡ Err why → new ≡ old → Does done done' (saw name under ∷ steps)
      → others ≡ 0 → StreamsInto r w keys aad name old new done done' end others
  begun : (under : Under) (file : W) (mid : Option (List FolderStep)) → refusal_of name under ≡ None
      → others < 100 → Does done mid
      (saw name under ∷ (are_there name others ++ made (part_name name others) None ∷ []))
      → IsEmpty (w.written file)
      → FillsFile r w keys aad name (part_name name others) old new file mid done' end
      → StreamsInto r w keys aad name old new done done' end others
