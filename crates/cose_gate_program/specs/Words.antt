-- The arguments of the command line: cose-gate KEYS [AADHEX].
use Rattle.std.specs.Prelude.{ℕ, List, [], ◌∷◌, Option, Some, None}

-- KEYS, and AADHEX if it is there, of the arguments after the program's name; one or two are taken
abbrev pub words : List (List ℕ) → Option (List ℕ × Option (List ℕ))
words [] = None
words (keys ∷ []) = Some (keys, None)
words (keys ∷ aad ∷ []) = Some (keys, Some aad)
words (keys ∷ aad ∷ more ∷ rest) = None
