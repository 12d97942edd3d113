-- Items of an array that a caller's function converts, one after another.
use Rattle.std.specs.Prelude.{◌≡◌, List, [], ◌∷◌, ◌++◌, false, Result, Ok, Err}
use Rattle.ciborium_value.specs.Tree.{Tree, array}
use Rattle.ciborium_value.specs.View.{views}
use Rattle.ciborium_value.specs.declared.value.Value.{Value}
use Rattle.coset_labels.specs.Faults.{fault_of, unexpected}
use Rattle.ciborium_value.specs.Kinds.{is_array}
use Rattle.coset_labels.specs.declared.error.CoseError.{CoseError}

-- the results are those of the items, in order; `R` tells which results an item may give
abbrev pub GivesAll : {A B E : Type 0} → (A → Result B E → Type 0) → List A → List B → Type 0
GivesAll R [] [] = Unit {0}
GivesAll R (x ∷ xs) (y ∷ ys) = R x (Ok y) × GivesAll R xs ys
GivesAll R [] (y ∷ ys) = ⊥
GivesAll R (x ∷ xs) [] = ⊥

-- an item gives the error, and those before it give results
pub record FailsFirst {A B E : Type 0} (R : A → Result B E → Type 0) (all : List A) (e : E) : Type 0 where
  pub before : List A
  pub after : List A
  pub item : A
  pub results : List B
  pub are : all ≡ before ++ item ∷ after
  pub given : GivesAll R before results
  pub fails : R item (Err e)

-- the tree is an array of values that give the results
pub record Converts {B E : Type 0} (R : Value → Result B E → Type 0) (t : Tree) (ys : List B) : Type 0 where
  pub values : List Value
  pub is : t ≡ array (views values)
  pub given : GivesAll R values ys

-- the tree is no array, of which `From` makes the error, or one of its values gives the error, the
-- first that gives one
pub data CantConvert {B E : Type 0} (R : Value → Result B E → Type 0) (From : CoseError → E → Type 0) (t : Tree) (e : E) : Type 0 where
  no_array : (c : CoseError) → fault_of c ≡ unexpected → is_array t ≡ false → From c e → CantConvert R From t e
  item_fails : (values : List Value) → t ≡ array (views values) → FailsFirst R values e → CantConvert R From t e
