-- What a run does in a folder.
use Rattle.std.specs.Prelude.{◌≡◌, ℕ, List, [], ◌++◌, Option, None, Some, option_map, Bool, Result, Ok, Err}
use Rattle.cose_stream.specs.declared.under.NotMade.{NotMade}
use Rattle.cose_stream.specs.declared.under.Under.{Under}

-- one step, and what came of it: what has this name; whether a new file of this name was made, or
-- why not; whether what was written to a file, if that is known, is on the disk; whether a file was
-- renamed; whether one was removed
pub data FolderStep : Type 0 where
  saw : (name : List ℕ) → (under : Under) → FolderStep
  made : (name : List ℕ) → (fault : Option NotMade) → FolderStep
  synced : (written : Option (List ℕ)) → (is_done : Bool) → FolderStep
  renamed : (from to : List ℕ) → (is_done : Bool) → FolderStep
  removed : (name : List ℕ) → (is_done : Bool) → FolderStep

-- these steps were done, if that is known
abbrev pub Does : Option (List FolderStep) → Option (List FolderStep) → List FolderStep → Type 0
Does old new steps = new ≡ option_map (λ xs. xs ++ steps) old

-- why no file was made, if none was
abbrev pub fault_of : {A : Type 0} → Result A NotMade → Option NotMade
fault_of (Ok a) = None
fault_of (Err why) = Some why

-- nothing was written, if that is known
abbrev pub IsEmpty : Option (List ℕ) → Type 0
IsEmpty None = Unit {0}
IsEmpty (Some xs) = xs ≡ []
