-- Labels, and numbers of registries, as values that hold no memory (RFC 9052, section 1.5).
use Rattle.std.specs.Prelude.{ℕ, ℤ, List}

-- an integer or a text
pub data LabelFields : Type 0 where
  number : ℤ → LabelFields
  words : List ℕ → LabelFields

-- a number for private use, one of a registry, or a text
pub data Named : Type 0 where
  private_use : ℤ → Named
  assigned : ℤ → Named
  named : List ℕ → Named
