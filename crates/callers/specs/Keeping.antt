-- The canonical encoding of a key, and keys that are kept by theirs.
use Rattle.std.specs.Prelude.{◌≡◌, ℕ, List, Some, option_map}
use Rattle.coset.specs.CborOrdering.TheVariants.{Lexicographic}
use Rattle.coset.specs.Encoding.{enc}
use Rattle.coset.specs.KeyFields.{KeyFields}
use Rattle.coset.specs.Keys.{HasKey}
use Rattle.coset.specs.KeysSorted.{Canonicalized}
use Rattle.coset.specs.KeysWritten.{key_tree}
use Rattle.coset.specs.Reading.{HasItem}

-- the fields are those of the key that the bytes are, its other entries in the order of their
-- labels' encodings
pub record IsOrdered (bytes : List ℕ) (ordered : KeyFields) : Type 0 where
  pub key : KeyFields
  pub read : HasItem HasKey bytes key
  pub sorted : Canonicalized Lexicographic key ordered

-- what that key is written as
abbrev pub IsSpelling : List ℕ → List ℕ → Type 0
IsSpelling bytes spelled =
    (k : KeyFields) × IsOrdered bytes k × (option_map enc (key_tree k) ≡ Some spelled)
