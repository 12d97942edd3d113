-- Equality by parts is that of what the parts say.
use Rattle.std.proofs.Common.{◌≡◌, ℕ, List, [], ◌∷◌, map, Bool, true, false, Option, Some, None, option_map, refl, ap}
use Rattle.std.specs.Prelude.{IsTrue, ◌↔◌, ◌&&◌, nat_eq}
use Rattle.std.specs.Cmp.Lexicographic.{pointwise, bytes_decides}
use Rattle.std.specs.Option.{option_eq}
use Rattle.std.specs.Ordering.{is_eq}
use Rattle.std.specs.declared.cmp.Ordering.{Ordering}
use Rattle.ciborium_value.specs.declared.value.Value.{Value}
use Rattle.ciborium_value.specs.contracts.value.ValuePartialEq.TheImpl as value_equality
use Rattle.ciborium_value.specs.Facts.Derived.{equal_is}
use Rattle.coset_labels.specs.Fields.{Named}
use Rattle.coset_labels.specs.Orders.{named_cmp}
use Rattle.coset_labels.specs.Facts.Orders.{names_same}
use Rattle.coset_labels.specs.View.{entry_view}

pub both : {P Q : Type 0} (a b : Bool) → IsTrue a ↔ P → IsTrue b ↔ Q → IsTrue (a && b) ↔ (P × Q)
both true b f g = (λ h. (f.0 refl, g.0 h), λ p. g.1 p.1)
both false b f g = (λ h. let e : false ≡ true = h in cc, λ p. let e : false ≡ true = f.1 p.0 in cc)

-- ---- what has a view, by its view
module _ {A B : Type 0} (E : A → A → Bool) (f : A → B) (e : (x y : A) → IsTrue (E x y) ↔ (f x ≡ f y)) where
  pub options : (x y : Option A) → IsTrue (option_eq E x y) ↔ (option_map f x ≡ option_map f y)
  options None None = (λ h. refl, λ h. refl)
  options None (Some y) = (λ h. let k : false ≡ true = h in cc, λ h. let k : None ≡ Some (f y) = h in cc)
  options (Some x) None = (λ h. let k : false ≡ true = h in cc, λ h. let k : Some (f x) ≡ None = h in cc)
  options (Some x) (Some y) =
      (λ h. ap Some ((e x y).0 h), λ h. let k : Some (f x) ≡ Some (f y) = h in let s : f x ≡ f y = cc in (e x y).1 s)

  pub lists : (xs ys : List A) → IsTrue (pointwise E xs ys) ↔ (map f xs ≡ map f ys)
  lists [] [] = (λ h. refl, λ h. refl)
  lists [] (y ∷ ys) = (λ h. let k : false ≡ true = h in cc, λ h. let k : [] ≡ f y ∷ map f ys = h in cc)
  lists (x ∷ xs) [] = (λ h. let k : false ≡ true = h in cc, λ h. let k : f x ∷ map f xs ≡ [] = h in cc)
  lists (x ∷ xs) (y ∷ ys) =
      let w = both (E x y) (pointwise E xs ys) (e x y) (lists xs ys) in (
        λ h. let p = w.0 h in λ i. p.0 i ∷ p.1 i,
        λ h.
            let k : f x ∷ map f xs ≡ f y ∷ map f ys = h in
            let s : f x ≡ f y = cc in
            let t : map f xs ≡ map f ys = cc in
            w.1 (s, t),
      )

-- ---- what is seen as it is
module _ {A : Type 0} (E : A → A → Bool) (e : (x y : A) → IsTrue (E x y) ↔ (x ≡ y)) where
  pub plain_options : (x y : Option A) → IsTrue (option_eq E x y) ↔ (x ≡ y)
  plain_options None None = (λ h. refl, λ h. refl)
  plain_options None (Some y) = (λ h. let k : false ≡ true = h in cc, λ h. let k : None ≡ Some y = h in cc)
  plain_options (Some x) None = (λ h. let k : false ≡ true = h in cc, λ h. let k : Some x ≡ None = h in cc)
  plain_options (Some x) (Some y) =
      (λ h. ap Some ((e x y).0 h), λ h. let k : Some x ≡ Some y = h in let s : x ≡ y = cc in (e x y).1 s)

  pub plain_lists : (xs ys : List A) → IsTrue (pointwise E xs ys) ↔ (xs ≡ ys)
  plain_lists [] [] = (λ h. refl, λ h. refl)
  plain_lists [] (y ∷ ys) = (λ h. let k : false ≡ true = h in cc, λ h. let k : [] ≡ y ∷ ys = h in cc)
  plain_lists (x ∷ xs) [] = (λ h. let k : false ≡ true = h in cc, λ h. let k : x ∷ xs ≡ [] = h in cc)
  plain_lists (x ∷ xs) (y ∷ ys) =
      let w = both (E x y) (pointwise E xs ys) (e x y) (plain_lists xs ys) in (
        λ h. let p = w.0 h in λ i. p.0 i ∷ p.1 i,
        λ h.
            let k : x ∷ xs ≡ y ∷ ys = h in
            let s : x ≡ y = cc in
            let t : xs ≡ ys = cc in
            w.1 (s, t),
      )

-- ---- bytes, names and entries
pub bytes_options : {A : Type 0} (f : A → List ℕ) (x y : Option A)
    → IsTrue (option_eq (λ a b. pointwise nat_eq (f a) (f b)) x y) ↔ (option_map f x ≡ option_map f y)
bytes_options f x y = options (λ a b. pointwise nat_eq (f a) (f b)) f (λ a b. bytes_decides (f a) (f b)) x y

abbrev pub by_name : {A : Type 0} → (A → Named) → A → A → Bool
by_name f x y = is_eq (named_cmp (f x) (f y))

pub by_names : {A : Type 0} (f : A → Named) (x y : A) → IsTrue (by_name f x y) ↔ (f x ≡ f y)
by_names f x y = names_same (f x) (f y)

module _ {A K : Type 0} (cmp : A → A → Ordering) (f : A → K) (same : (x y : A) → IsTrue (is_eq (cmp x y)) ↔ (f x ≡ f y)) where
  abbrev pub entry_eq : A × Value → A × Value → Bool
  entry_eq x y = is_eq (cmp x.0 y.0) && value_equality.eq-value.it x.1 y.1

  entry_same : (x y : A × Value) → IsTrue (entry_eq x y) ↔ (entry_view f x ≡ entry_view f y)
  entry_same x y =
      let w = both (is_eq (cmp x.0 y.0)) (value_equality.eq-value.it x.1 y.1) (same x.0 y.0) (equal_is x.1 y.1) in
      (λ h. let p = w.0 h in λ i. (p.0 i, p.1 i), λ h. w.1 (ap (λ z. z.0) h, ap (λ z. z.1) h))

  pub entry_lists : (xs ys : List (A × Value)) → IsTrue (pointwise entry_eq xs ys) ↔ (map (entry_view f) xs ≡ map (entry_view f) ys)
  entry_lists xs ys = lists entry_eq (entry_view f) entry_same xs ys
