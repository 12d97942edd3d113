-- The parts that a message and a recipient begin with: a protected header, an unprotected one, and
-- bytes or null (RFC 9052, sections 4.2, 5.1 and 6.1). The nesting limit `n` and the layers `k` are
-- those of headers.
use Rattle.std.specs.Prelude.{◌≡◌, ℕ, List, [], ◌∷◌}
use Rattle.std.proofs.Common.{refl}
use Rattle.ciborium_value.specs.Tree.{Tree, array}
use Rattle.ciborium_value.specs.View.{trees}
use Rattle.coset_headers.specs.Headers.{HasHeader, HasProtected}
pub use Rattle.coset_recipients.specs.PartsFields.{PartsFields, parts}
use Rattle.coset_recipients.specs.PartsWritten.{optional_tree}

pub record HasParts (n : ℕ) (first second third : Tree) (f : PartsFields) (k : ℕ) : Type 0 where
  pub protected : HasProtected n first f.protected k
  pub unprotected : HasHeader n second f.unprotected k
  pub content : third ≡ optional_tree f.content

-- each property holds of the item in its place, and there are as many items
abbrev pub HoldOf : List (Tree → Type 0) → List Tree → Type 0
HoldOf [] [] = Unit {0}
HoldOf [] (t ∷ ts) = ⊥
HoldOf (P ∷ Ps) [] = ⊥
HoldOf (P ∷ Ps) (t ∷ ts) = P t × HoldOf Ps ts

-- the same for one item, and for two
pub one_held : (P : Tree → Type 0) (ts : List Tree) → HoldOf (P ∷ []) ts → (x : Tree) × (ts ≡ x ∷ []) × P x
one_held P [] h = absurd h
one_held P (x ∷ []) h = (x, refl, h.0)
one_held P (x ∷ y ∷ ts) h = absurd h.1

pub two_held : (P Q : Tree → Type 0) (ts : List Tree) → HoldOf (P ∷ Q ∷ []) ts → (x y : Tree) × (ts ≡ x ∷ y ∷ []) × P x × Q y
two_held P Q [] h = absurd h
two_held P Q (x ∷ []) h = absurd h.1
two_held P Q (x ∷ y ∷ []) h = (x, y, refl, h.0, h.1.0)
two_held P Q (x ∷ y ∷ z ∷ ts) h = absurd h.1.1

-- a message: an array of the parts and, after them, of the last items, of which these hold
pub record HasWhole (n : ℕ) (t : Tree) (f : PartsFields) (Lasts : List (Tree → Type 0)) (k : ℕ) : Type 0 where
  pub first : Tree
  pub second : Tree
  pub third : Tree
  pub lasts : List Tree
  pub is : t ≡ array (trees (first ∷ second ∷ third ∷ lasts))
  pub parts : HasParts n first second third f k
  pub hold : HoldOf Lasts lasts
