-- What the parts of the reader show.
use Rattle.std.specs.Prelude.{◌≡◌, ◌≢◌, ◌<◌, ◌≤◌, ◌⊎◌, ◌++◌, ◌∷◌, ℕ, List, Option, Some, map, false, length}
use Rattle.ciborium_value.specs.Tree.{Tree, bytes, is_bytes}
use Rattle.coset_labels.specs.Faults.{CoseFault, unexpected}
use Rattle.coset_labels.specs.Limits.{nesting, layers}
use Rattle.coset_headers.specs.Headers.{HasProtected}
use Rattle.coset_headers.specs.Wrong.{WrongProtected}
use Rattle.coset_kdf.specs.Contexts.{length_of}
use Rattle.coset_kdf.specs.Fields.{PublicFields}
use Rattle.coset_kdf.specs.Wrong.{WrongLength}

-- the first two elements of public information, and the one that may be absent
pub record HasTwo (a b : Tree) (o : Option (List ℕ)) (s : PublicFields) : Type 0 where
  pub length : length_of a ≡ Some s.key_data_length
  pub protected_header : HasProtected nesting b s.protected_header layers
  pub other : s.other ≡ o

abbrev pub WrongTwo : Tree → Tree → CoseFault → Type 0
WrongTwo a b e = WrongProtected nesting b layers e ⊎ WrongLength a e

-- four items are left, or there were fewer, and those after them are these byte strings
pub record Popped (old new : List Tree) (bs : List (List ℕ)) : Type 0 where
  pub left : length new ≢ 4 → length old < 4
  pub are : old ≡ new ++ map bytes bs

-- an item after the fourth is no byte string
pub record WrongPopped (old : List Tree) (e : CoseFault) : Type 0 where
  pub before : List Tree
  pub after : List Tree
  pub tree : Tree
  pub many : 4 ≤ length before
  pub are : old ≡ before ++ tree ∷ after
  pub kind : is_bytes tree ≡ false
  pub fault : e ≡ unexpected
