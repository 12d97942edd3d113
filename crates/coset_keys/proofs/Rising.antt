-- Lists that rise by an order: they are one if they have the same elements.
use Rattle.std.proofs.Common.{◌≡◌, ◌⊎◌, inl, inr, ⊎_elim, List, [], ◌∷◌, ◌++◌, map, refl, sym, ap, subst, ◌∙◌, arith}
use Rattle.std.specs.Prelude.{◌↔◌}
use Rattle.std.specs.Cmp.{IsTotalOrder}
use Rattle.std.specs.List.{Contains, AllByRecursion}
use Rattle.std.specs.List.Sorted.{IsStrictlySortedBy}
use Rattle.std.specs.BTreeSet.{insert_key}
use Rattle.std.specs.Ordering.{match_ordering}
use Rattle.std.specs.declared.cmp.Ordering.{Ordering}
use Rattle.std.specs.declared.cmp.Ordering.TheVariants.{Less, Equal, Greater}
use Rattle.std.proofs.lemmas.Cmp.{tied_itself}
use Rattle.std.proofs.lemmas.List.Elements.{Contains-append_left, Contains-append_right, Contains-append_cases, Contains-push, Contains-push_cases}
use Rattle.std.proofs.lemmas.Map.Keys.{sorted_head, sorted_tail}

pub contains_head : {X : Type 0} (x : X) (xs : List X) → Contains (x ∷ xs) x
contains_head x xs = Contains-append_left (x ∷ []) xs x (Contains-push [] x)

pub contains_tail : {X : Type 0} (x : X) (xs : List X) (y : X) → Contains xs y → Contains (x ∷ xs) y
contains_tail x xs y c = Contains-append_right (x ∷ []) xs y c

pub contains_none : {X : Type 0} (y : X) → Contains [] y → ⊥
contains_none y c = let h = c.1 in absurd (omega (arith, h))

contains_one : {X : Type 0} (x y : X) → Contains (x ∷ []) y → x ≡ y
contains_one x y c = ⊎_elim (λ h. absurd (contains_none y h)) (λ e. e) (Contains-push_cases [] x y c)

pub contains_cases : {X : Type 0} (x : X) (xs : List X) (y : X) → Contains (x ∷ xs) y → (x ≡ y) ⊎ Contains xs y
contains_cases x xs y c = ⊎_elim (λ h. inl (contains_one x y h)) (λ h. inr h) (Contains-append_cases (x ∷ []) xs y c)

by_member : {X : Type 0} (P : X → Type 0) (xs : List X) (y : X) → AllByRecursion P xs → Contains xs y → P y
by_member P [] y a c = absurd (contains_none y c)
by_member P (x ∷ xs) y a c = ⊎_elim (λ e. subst P e a.0) (λ h. by_member P xs y a.1 h) (contains_cases x xs y c)

module _ {X : Type 0} (R : X → X → Ordering) (total : IsTotalOrder R) where
  never_below : (x : X) → R x x ≡ Less → ⊥
  never_below x h = let e : Equal ≡ Less = sym (tied_itself total x) ∙ h in cc

  never_both : (x y : X) → R x y ≡ Less → R y x ≡ Less → ⊥
  never_both x y h k = never_below x (total.trans x y x h k)

  -- an element after the first is not the first
  later : (x y : X) (ys : List X) → IsStrictlySortedBy R (y ∷ ys) → Contains ys x → R y x ≡ Less
  later x y ys s c = by_member (λ z. R y z ≡ Less) ys x (sorted_head R y ys s) c

  heads : (x y : X) (xs ys : List X) → IsStrictlySortedBy R (x ∷ xs) → IsStrictlySortedBy R (y ∷ ys) → (y ≡ x) ⊎ Contains ys x → (x ≡ y) ⊎ Contains xs y → x ≡ y
  heads x y xs ys s t (inl e) d = sym e
  heads x y xs ys s t (inr c) (inl e) = e
  heads x y xs ys s t (inr c) (inr d) = absurd (never_both x y (later y x xs s d) (later x y ys t c))

  behind : (x y q : X) (xs ys : List X) → IsStrictlySortedBy R (x ∷ xs) → x ≡ y → Contains xs q → (y ≡ q) ⊎ Contains ys q → Contains ys q
  behind x y q xs ys s e c (inl f) = absurd (never_below x (subst (λ z. R x z ≡ Less) (sym (e ∙ f)) (later q x xs s c)))
  behind x y q xs ys s e c (inr d) = d

  pub rising_once : (xs ys : List X) → IsStrictlySortedBy R xs → IsStrictlySortedBy R ys → ((q : X) → Contains xs q ↔ Contains ys q) → xs ≡ ys
  rising_once [] [] s t h = refl
  rising_once [] (y ∷ ys) s t h = absurd (contains_none y ((h y).1 (contains_head y ys)))
  rising_once (x ∷ xs) [] s t h = absurd (contains_none x ((h x).0 (contains_head x xs)))
  rising_once (x ∷ xs) (y ∷ ys) s t h =
      let e : x ≡ y = heads x y xs ys s t (contains_cases y ys x ((h x).0 (contains_head x xs))) (contains_cases x xs y ((h y).1 (contains_head y ys))) in
      let r : xs ≡ ys = rising_once xs ys (sorted_tail R x xs s) (sorted_tail R y ys t) (λ q. (
        λ c. behind x y q xs ys s e c (contains_cases y ys q ((h q).0 (contains_tail x xs q c))),
        λ c. behind y x q ys xs t (sym e) c (contains_cases x xs q ((h q).1 (contains_tail y ys q c))),
      )) in
      λ i. e i ∷ r i

-- one more element at its place, by an order that ties what is equal alone
module _ {X : Type 0} (R : X → X → Ordering) (ties : (x y : X) → R x y ≡ Equal → x ≡ y) where
  there_by : (k x : X) (xs zs : List X) (o : Ordering) → R k x ≡ o → Contains zs k → Contains (match_ordering o (k ∷ x ∷ xs) (x ∷ xs) (x ∷ zs)) k
  there_by k x xs zs Less e h = contains_head k (x ∷ xs)
  there_by k x xs zs Equal e h = subst (λ z. Contains (x ∷ xs) z) (sym (ties k x e)) (contains_head x xs)
  there_by k x xs zs Greater e h = contains_tail x zs k h

  pub inserted_there : (k : X) (xs : List X) → Contains (insert_key R xs k) k
  inserted_there k [] = contains_head k []
  inserted_there k (x ∷ xs) = there_by k x xs (insert_key R xs k) (R k x) refl (inserted_there k xs)

  keeps_by : (k x : X) (xs zs : List X) (q : X) (o : Ordering) → Contains (x ∷ xs) q → (Contains xs q → Contains zs q) → Contains (match_ordering o (k ∷ x ∷ xs) (x ∷ xs) (x ∷ zs)) q
  keeps_by k x xs zs q Less c h = contains_tail k (x ∷ xs) q c
  keeps_by k x xs zs q Equal c h = c
  keeps_by k x xs zs q Greater c h = ⊎_elim (λ e. subst (λ z. Contains (x ∷ zs) z) e (contains_head x zs)) (λ d. contains_tail x zs q (h d)) (contains_cases x xs q c)

  pub inserted_keeps : (k : X) (xs : List X) (q : X) → Contains xs q → Contains (insert_key R xs k) q
  inserted_keeps k [] q c = absurd (contains_none q c)
  inserted_keeps k (x ∷ xs) q c = keeps_by k x xs (insert_key R xs k) q (R k x) c (inserted_keeps k xs q)

  only_by : (k x : X) (xs zs : List X) (q : X) (o : Ordering) → (Contains zs q → (k ≡ q) ⊎ Contains xs q) → Contains (match_ordering o (k ∷ x ∷ xs) (x ∷ xs) (x ∷ zs)) q → (k ≡ q) ⊎ Contains (x ∷ xs) q
  only_by k x xs zs q Less h d = contains_cases k (x ∷ xs) q d
  only_by k x xs zs q Equal h d = inr d
  only_by k x xs zs q Greater h d = ⊎_elim (λ e. inr (subst (λ z. Contains (x ∷ xs) z) e (contains_head x xs))) (λ f. ⊎_elim (λ e. inl e) (λ g. inr (contains_tail x xs q g)) (h f)) (contains_cases x zs q d)

  pub inserted_only : (k : X) (xs : List X) (q : X) → Contains (insert_key R xs k) q → (k ≡ q) ⊎ Contains xs q
  inserted_only k [] q c = contains_cases k [] q c
  inserted_only k (x ∷ xs) q c = only_by k x xs (insert_key R xs k) q (R k x) (inserted_only k xs q) c

-- an element above all others goes after them
pub inserted_last : {X : Type 0} (R : X → X → Ordering) (k : X) (xs : List X) → AllByRecursion (λ x. R k x ≡ Greater) xs → insert_key R xs k ≡ xs ++ k ∷ []
inserted_last R k [] a = refl
inserted_last R k (x ∷ xs) a = ap (λ o. match_ordering o (k ∷ x ∷ xs) (x ∷ xs) (x ∷ insert_key R xs k)) a.0 ∙ ap (λ z. x ∷ z) (inserted_last R k xs a.1)

-- the same by what the elements show
module _ {X Y : Type 0} (f : X → Y) (R : Y → Y → Ordering) where
  map_by : (k x : X) (xs zs : List X) (us : List Y) (o : Ordering) → map f zs ≡ us → map f (match_ordering o (k ∷ x ∷ xs) (x ∷ xs) (x ∷ zs)) ≡ match_ordering o (f k ∷ f x ∷ map f xs) (f x ∷ map f xs) (f x ∷ us)
  map_by k x xs zs us Less e = refl
  map_by k x xs zs us Equal e = refl
  map_by k x xs zs us Greater e = ap (λ z. f x ∷ z) e

  pub map_inserted : (k : X) (xs : List X) → map f (insert_key (λ a b. R (f a) (f b)) xs k) ≡ insert_key R (map f xs) (f k)
  map_inserted k [] = refl
  map_inserted k (x ∷ xs) = map_by k x xs (insert_key (λ a b. R (f a) (f b)) xs k) (insert_key R (map f xs) (f k)) (R (f k) (f x)) (map_inserted k xs)

  map_below : (x : X) (xs : List X) → AllByRecursion (λ y. R (f x) (f y) ≡ Less) xs → AllByRecursion (λ y. R (f x) y ≡ Less) (map f xs)
  map_below x [] a = tt
  map_below x (y ∷ ys) a = (a.0, map_below x ys a.1)

  pub map_rises : (xs : List X) → IsStrictlySortedBy (λ a b. R (f a) (f b)) xs → IsStrictlySortedBy R (map f xs)
  unfolding IsStrictlySortedBy
  map_rises [] s = tt
  map_rises (x ∷ xs) s = (map_below x xs s.0, map_rises xs s.1)
