-- Maps with fields: a list of the fields' numbers and what each is written as, if it is.
use Rattle.std.specs.Prelude.{ℕ, List, [], ◌∷◌, ◌++◌, Option, Some, None}
use Rattle.ciborium_value.specs.Tree.{Tree}

module _ {K : Type 0} (key : ℕ → K) where
  abbrev pub entry_of : ℕ → Option Tree → List (K × Tree)
  entry_of n None = []
  entry_of n (Some t) = (key n, t) ∷ []

  -- the entries of the fields that are set, before others
  abbrev pub entries_of : List (ℕ × Option Tree) → List (K × Tree) → List (K × Tree)
  entries_of [] es = es
  entries_of (f ∷ fs) es = entry_of f.0 f.1 ++ entries_of fs es
