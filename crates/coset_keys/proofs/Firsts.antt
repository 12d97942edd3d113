-- The first of several things that are read one after another.
use Rattle.std.proofs.Common.{◌≡◌, List, ◌∷◌, Option, Some, None, option_map, option_and_then, refl}

-- what all give is what the first gives before what the others give
pub record FirstOf {A B : Type 0} (f : A → B) (o : Option A) (w : Option (List B)) (all : List B) : Type 0 where
  pub first : A
  pub rest : List B
  pub is : o ≡ Some first
  pub others : w ≡ Some rest
  pub whole : all ≡ f first ∷ rest

pub first_of : {A B : Type 0} (f : A → B) (o : Option A) (w : Option (List B)) (all : List B) → option_and_then (λ a. option_map (λ bs. f a ∷ bs) w) o ≡ Some all → FirstOf f o w all
first_of f (Some a) (Some bs) all e = let h : Some (f a ∷ bs) ≡ Some all = e in record { first = a; rest = bs; is = refl; others = refl; whole = cc }
first_of f o w all e = let h : None ≡ Some all = e in cc
