-- Which fault a value has as a recipient, or as a list of them (RFC 9052, section 5.1). A value may
-- have several. The nesting limit `n` and the layers `k` are those of the fields.
use Rattle.std.specs.Prelude.{◌≡◌, ◌≢◌, ℕ, List, ◌∷◌, ◌++◌, false, Option, Some}
use Rattle.ciborium_value.specs.Tree.{Tree, array, Trees, tree_count}
use Rattle.ciborium_value.specs.View.{trees}
use Rattle.coset_labels.specs.Faults.{CoseFault, unexpected}
use Rattle.ciborium_value.specs.Kinds.{is_array}
use Rattle.coset_recipients.specs.WrongParts.{WrongParts}
use Rattle.coset_recipients.specs.Shapes.{three_or_four}

mutual
  -- no array, one of another length, one of its parts, or its fourth element
  pub data WrongRecipient (n : ℕ) : Tree → ℕ → CoseFault → Type 0 where
    no_array : (t : Tree) (k : ℕ) → is_array t ≡ false → WrongRecipient n t k unexpected
    not_three_or_four : (ts : Trees) (k : ℕ) → tree_count ts ≢ 3 → tree_count ts ≢ 4 → WrongRecipient n (array ts) k unexpected
    in_parts : (x y z : Tree) (o : Option Tree) (k : ℕ) (e : CoseFault) → WrongParts n x y z k e → WrongRecipient n (array (three_or_four x y z o)) k e
    in_fourth : (x y z t : Tree) (k : ℕ) (e : CoseFault) → WrongList n t k e → WrongRecipient n (array (three_or_four x y z (Some t))) k e

  -- no array, or one with a recipient that has a fault
  pub data WrongList (n : ℕ) : Tree → ℕ → CoseFault → Type 0 where
    no_list : (t : Tree) (k : ℕ) → is_array t ≡ false → WrongList n t k unexpected
    in_list : (before after : List Tree) (t : Tree) (k : ℕ) (e : CoseFault) → WrongRecipient n t k e → WrongList n (array (trees (before ++ t ∷ after))) k e
