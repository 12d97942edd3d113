-- Where bytes are in others.
use Rattle.std.specs.Prelude.{◌≡◌, ℕ, List, ◌++◌, length}

-- these bytes lie in b: they begin at this place, and are so many
pub record Lies (part : List ℕ) (at size : ℕ) (b : List ℕ) : Type 0 where
  pub before : List ℕ
  pub after : List ℕ
  pub whole : b ≡ before ++ (part ++ after)
  pub at_is : at ≡ length before
  pub size_is : size ≡ length part
