-- Byte strings that are not empty.
use Rattle.std.specs.Prelude.{◌≡◌, ℕ, List, [], ◌∷◌, Option, Some, None}
use Rattle.ciborium_value.specs.Tree.{Tree, bytes}
use Rattle.coset_labels.specs.Faults.{CoseFault, unexpected}

abbrev pub some_bytes : Tree → Option (List ℕ)
some_bytes (bytes (x ∷ xs)) = Some (x ∷ xs)
some_bytes _ = None

-- no byte string, or an empty one
abbrev pub WrongBytes : Tree → CoseFault → Type 0
WrongBytes (bytes b) e = (b ≡ []) × (e ≡ unexpected)
WrongBytes _ e = e ≡ unexpected
