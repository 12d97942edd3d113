-- Of an item one option or list is taken.
use Rattle.std.proofs.Common.{◌≡◌, List, [], ◌∷◌, map, Option, Some, None, refl, sym, ap, subst, ◌∙◌}
use Rattle.std.proofs.lemmas.Bool.{false≢true}
use Rattle.ciborium_value.specs.Tree as spec
use Rattle.ciborium_value.specs.Tree.{Tree, Trees, no_trees, one_more}
use Rattle.ciborium_value.specs.View.{trees}
use Rattle.ciborium_traits.specs.Back.{TakesOne}
use Rattle.ciborium_traits.specs.Lists.{EachTaken, OptionalTaken, optional_tree}

module _ {T : Type 0} (put : T → Tree) (takes : Tree → T → Type 0) (one : TakesOne put takes) where
  pub option_once : (t : Tree) (x y : Option T) → OptionalTaken takes t x → OptionalTaken takes t y → optional_tree put x ≡ optional_tree put y
  option_once t None None a b = refl
  option_once t None (Some y) a b = absurd (false≢true (sym b.0 ∙ a))
  option_once t (Some x) None a b = absurd (false≢true (sym a.0 ∙ b))
  option_once t (Some x) (Some y) a b = one t x y a.1 b.1

  items_once : (ts : Trees) (xs ys : List T) → EachTaken takes ts xs → EachTaken takes ts ys → map put xs ≡ map put ys
  items_once no_trees [] [] a b = refl
  items_once no_trees [] (y ∷ ys) a b = elim b [ ]
  items_once no_trees (x ∷ xs) ys a b = elim a [ ]
  items_once (one_more t ts) [] ys a b = elim a [ ]
  items_once (one_more t ts) (x ∷ xs) [] a b = elim b [ ]
  items_once (one_more t ts) (x ∷ xs) (y ∷ ys) a b = ap (λ (z : Tree). z ∷ map put xs) (one t x y a.0 b.0) ∙ ap (λ (z : List Tree). put y ∷ z) (items_once ts xs ys a.1 b.1)

  abbrev ListTaken : Tree → List T → Type 0
  ListTaken t xs = (ts : Trees) × (t ≡ spec.array ts) × EachTaken takes ts xs

  pub list_once : (t : Tree) (xs ys : List T) → ListTaken t xs → ListTaken t ys → spec.array (trees (map put xs)) ≡ spec.array (trees (map put ys))
  list_once t xs ys a b =
      let e : spec.array a.0 ≡ spec.array b.0 = sym a.1 ∙ b.1 in
      let f : a.0 ≡ b.0 = cc in
      ap (λ (z : List Tree). spec.array (trees z)) (items_once b.0 xs ys (subst (λ (z : Trees). EachTaken takes z xs) f a.2) b.2)
