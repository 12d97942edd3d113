-- Lists of operations as they are read.
use Rattle.std.proofs.Common.{◌≡◌, ⊎_elim, List, [], ◌∷◌, ◌++◌, map, Bool, true, false, Some, option_map, option_and_then, refl, sym, ap, subst, ◌∙◌}
use Rattle.std.specs.Prelude.{not, ◌||◌}
use Rattle.std.specs.Cmp.{IsEquivalence}
use Rattle.std.specs.List.{Contains, IsDistinct, list_any}
use Rattle.std.specs.List.Sorted.{IsStrictlySortedBy}
use Rattle.std.specs.BTreeSet.{insert_key}
use Rattle.std.specs.Ordering.{is_eq, eq_by_cmp}
use Rattle.std.proofs.lemmas.Cmp.{eq_by_cmp_equiv}
use Rattle.std.proofs.lemmas.List.{map-append}
use Rattle.std.proofs.lemmas.List.Elements.{Contains-append_left, Contains-push, Contains-push_cases}
use Rattle.std.proofs.lemmas.Map.Keys.{IsDistinct-push}
use Rattle.std.proofs.lemmas.Map.Views.{Contains-from_any, list_any-from_Contains}
use Rattle.ciborium_value.specs.Tree.{Tree}
use Rattle.ciborium_value.specs.View.{trees, view, views}
use Rattle.ciborium_value.specs.declared.value.Value.{Value}
use Rattle.coset_labels.specs.Facts.Entries.{snoc_step}
use Rattle.coset_labels.specs.Fields.{Named}
use Rattle.coset_labels.specs.Orders.{named_cmp}
use Rattle.coset_labels.specs.Facts.Orders.{named_total, named_tied, names_same}
use Rattle.coset_keys.specs.Keys.{operation_of, operations_of, Rises}
use Rattle.coset_keys.proofs.Rising.{inserted_there, inserted_keeps, inserted_only}

-- ---- one more operation
operations_snoc : (ts : List Tree) (t : Tree) (ns : List Named) (n : Named) → operations_of (trees ts) ≡ Some ns → operation_of t ≡ Some n → operations_of (trees (ts ++ t ∷ [])) ≡ Some (ns ++ n ∷ [])
operations_snoc [] t ns n e q =
    let h : Some [] ≡ Some ns = e in
    let s : [] ≡ ns = cc in
    ap (λ o. option_and_then (λ n. option_map (λ ns. n ∷ ns) (Some [])) o) q ∙ ap (λ z. Some (z ++ n ∷ [])) s
operations_snoc (x ∷ xs) t ns n e q = snoc_step (λ m. m) (operation_of x) (operations_of (trees xs)) _ ns n (λ fs h. operations_snoc xs t fs n h q) e

pub operations_pushed : (xs : List Value) (x : Value) (ms : List Named) (n : Named) → operations_of (views xs) ≡ Some ms → operation_of (view x) ≡ Some n → operations_of (views (xs ++ x ∷ [])) ≡ Some (ms ++ n ∷ [])
operations_pushed xs x ms n a q = ap (λ z. operations_of (trees z)) (map-append view xs (x ∷ [])) ∙ operations_snoc (map view xs) (view x) ms n a q

-- ---- a set of operations
same_name : (x y : Named) → eq_by_cmp named_cmp x y ≡ true → x ≡ y
same_name x y e = (names_same x y).0 e

names_equiv : IsEquivalence (eq_by_cmp named_cmp)
names_equiv = eq_by_cmp_equiv named_total

pub not_true : (b : Bool) → (b ≡ true → ⊥) → b ≡ false
not_true true h = absurd (h refl)
not_true false h = refl

none_twice : IsDistinct (eq_by_cmp named_cmp) []
unfolding IsDistinct
none_twice = tt

pub none_rises : IsStrictlySortedBy named_cmp []
unfolding IsStrictlySortedBy
none_rises = tt

pub no_operation : Rises [] []
no_operation = record { unrepeated = none_twice; same = λ n. (λ c. c, λ c. c); ordered = none_rises }

module _ (ms ns : List Named) (n : Named) (w : Rises ms ns) where
  fresh : list_any (eq_by_cmp named_cmp n) ns ≡ false → list_any (eq_by_cmp named_cmp n) ms ≡ false
  fresh e = not_true (list_any (eq_by_cmp named_cmp n) ms) (λ h.
      let c : Contains ns n = (w.same n).0 (Contains-from_any same_name n ms h) in
      let d : list_any (eq_by_cmp named_cmp n) ns ≡ true = list_any-from_Contains names_equiv n ns c in
      let x : false ≡ true = sym e ∙ d in cc)

  into : (q : Named) → Contains (ms ++ n ∷ []) q → Contains (insert_key named_cmp ns n) q
  into q c = ⊎_elim
      (λ h. inserted_keeps named_cmp named_tied n ns q ((w.same q).0 h))
      (λ e. subst (Contains (insert_key named_cmp ns n)) e (inserted_there named_cmp named_tied n ns))
      (Contains-push_cases ms n q c)

  out : (q : Named) → Contains (insert_key named_cmp ns n) q → Contains (ms ++ n ∷ []) q
  out q c = ⊎_elim
      (λ e. subst (Contains (ms ++ n ∷ [])) e (Contains-push ms n))
      (λ h. Contains-append_left ms (n ∷ []) q ((w.same q).1 h))
      (inserted_only named_cmp named_tied n ns q c)

  pub rises_more : list_any (eq_by_cmp named_cmp n) ns ≡ false → IsStrictlySortedBy named_cmp (insert_key named_cmp ns n) → Rises (ms ++ n ∷ []) (insert_key named_cmp ns n)
  rises_more e s = record {
    unrepeated = IsDistinct-push names_equiv ms n w.unrepeated (fresh e);
    same = λ q. (into q, out q);
    ordered = s;
  }

  pub there_before : list_any (eq_by_cmp named_cmp n) ns ≡ true → Contains ms n
  there_before e = (w.same n).1 (Contains-from_any same_name n ns e)

pub any_map : {X : Type 0} (f : X → Named) (n : Named) (xs : List X) → list_any (λ x. is_eq (named_cmp n (f x))) xs ≡ list_any (eq_by_cmp named_cmp n) (map f xs)
any_map f n [] = refl
any_map f n (x ∷ xs) = ap (λ z. is_eq (named_cmp n (f x)) || z) (any_map f n xs)

not_cases : (a b : Bool) → a ≡ not b → a ≡ true → b ≡ false
not_cases a true e q = let h : true ≡ false = sym q ∙ e in cc
not_cases a false e q = refl

not_false_cases : (a b : Bool) → a ≡ not b → a ≡ false → b ≡ true
not_false_cases a true e q = refl
not_false_cases a false e q = let h : false ≡ true = sym q ∙ e in cc

pub any_added : {X : Type 0} (f : X → Named) (k : X) (xs : List X) (b : Bool) → b ≡ not (list_any (λ x. is_eq (named_cmp (f k) (f x))) xs) → b ≡ true → list_any (eq_by_cmp named_cmp (f k)) (map f xs) ≡ false
any_added f k xs b e q = sym (any_map f (f k) xs) ∙ not_cases b _ e q

pub any_again : {X : Type 0} (f : X → Named) (k : X) (xs : List X) (b : Bool) → b ≡ not (list_any (λ x. is_eq (named_cmp (f k) (f x))) xs) → b ≡ false → list_any (eq_by_cmp named_cmp (f k)) (map f xs) ≡ true
any_again f k xs b e q = sym (any_map f (f k) xs) ∙ not_false_cases b _ e q
