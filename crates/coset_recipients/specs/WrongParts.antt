-- Which fault the parts of a message or a recipient have. They may have several.
use Rattle.std.specs.Prelude.{◌≡◌, ◌≢◌, ◌+◌, ◌⊎◌, ℕ, suc, List, [], ◌∷◌, length, false}
use Rattle.ciborium_value.specs.Tree.{Tree, array, simple, Trees, tree_count, is_bytes}
use Rattle.ciborium_value.specs.View.{trees}
use Rattle.coset_labels.specs.Faults.{CoseFault, unexpected}
use Rattle.ciborium_value.specs.Kinds.{is_array}
use Rattle.coset_headers.specs.Wrong.{WrongHeader, WrongProtected}

pub data WrongParts (n : ℕ) (first second third : Tree) (k : ℕ) : CoseFault → Type 0 where
  in_protected : (e : CoseFault) → WrongProtected n first k e → WrongParts n first second third k e
  in_unprotected : (e : CoseFault) → WrongHeader n second k e → WrongParts n first second third k e
  in_content : is_bytes third ≡ false → third ≢ simple 22 → WrongParts n first second third k unexpected

-- no byte string
abbrev pub IsNoBytes : Tree → CoseFault → Type 0
IsNoBytes t e = (is_bytes t ≡ false) × (e ≡ unexpected)

abbrev pub how_many : List (Tree → CoseFault → Type 0) → ℕ
how_many [] = 0
how_many (Wrong ∷ more) = suc (how_many more)

-- one of the items has the fault, as what it should have been
abbrev pub AnyWrong : List (Tree → CoseFault → Type 0) → List Tree → CoseFault → Type 0
AnyWrong (Wrong ∷ more) (t ∷ ts) e = Wrong t e ⊎ AnyWrong more ts e
AnyWrong _ _ e = ⊥

-- a message: no array, one of another length, or a fault in the parts or in one of the last items
pub data WrongWhole (n : ℕ) (t : Tree) (Lasts : List (Tree → CoseFault → Type 0)) (k : ℕ) : CoseFault → Type 0 where
  no_array : is_array t ≡ false → WrongWhole n t Lasts k unexpected
  not_as_many : (ts : Trees) → t ≡ array ts → tree_count ts ≢ 3 + how_many Lasts → WrongWhole n t Lasts k unexpected
  in_parts : (x y z : Tree) (ls : List Tree) (e : CoseFault) → t ≡ array (trees (x ∷ y ∷ z ∷ ls)) → length ls ≡ how_many Lasts → WrongParts n x y z k e
      → WrongWhole n t Lasts k e
  in_lasts : (x y z : Tree) (ls : List Tree) (e : CoseFault) → t ≡ array (trees (x ∷ y ∷ z ∷ ls)) → length ls ≡ how_many Lasts → AnyWrong Lasts ls e
      → WrongWhole n t Lasts k e
