-- Operations one after another, written and copied.
use Rattle.std.proofs.Common.{◌≡◌, List, [], ◌∷◌, ◌++◌, map, Some, refl, sym, ap, subst, ◌∙◌, Bor}
use Rattle.std.specs.Cmp.{IsTotalOrder}
use Rattle.std.specs.List.{AllByRecursion}
use Rattle.std.specs.List.Sorted.{IsStrictlySortedBy}
use Rattle.std.specs.BTreeSet.{insert_key}
use Rattle.std.specs.Map.Iter.{deref}
use Rattle.std.specs.Ordering.{ordering_reverse}
use Rattle.std.specs.declared.cmp.Ordering.{Ordering}
use Rattle.std.specs.declared.cmp.Ordering.TheVariants.{Less, Greater}
use Rattle.std.proofs.lemmas.List.{map-append}
use Rattle.std.proofs.lemmas.Map.Keys.{sorted_head, sorted_tail}
use Rattle.ciborium_value.specs.View.{view}
use Rattle.ciborium_value.specs.declared.value.Value.{Value}
use Rattle.coset_labels.specs.Fields.{Named}
use Rattle.coset_labels.specs.Labels.{named_tree}
use Rattle.coset_labels.specs.Orders.{named_cmp}
use Rattle.coset_labels.specs.Facts.Orders.{named_total}
use Rattle.coset_keys.proofs.Rising.{inserted_last, map_inserted, map_rises}

pub op_pushed : {X : Type 0} (f : X → Named) (xs : List X) (x : X) (ys zs : List Value) (y : Value) → zs ≡ ys ++ y ∷ [] → map view ys ≡ map named_tree (map f xs) → Some (named_tree (f x)) ≡ Some (view y)
    → map view zs ≡ map named_tree (map f (xs ++ x ∷ []))
op_pushed f xs x ys zs y e w s =
    let same : view y ≡ named_tree (f x) = cc in
    ap (map view) e ∙ map-append view ys (y ∷ []) ∙ (λ i. w i ++ same i ∷ [])
    ∙ sym (ap (map named_tree) (map-append f xs (x ∷ [])) ∙ map-append named_tree (map f xs) (f x ∷ []))

map_same : {X : Type 0} (xs : List X) → map (λ x. x) xs ≡ xs
map_same [] = refl
map_same (x ∷ xs) = ap (λ z. x ∷ z) (map_same xs)

pub same_list : {X : Type 0} (xs ys : List X) → map (λ x. x) xs ≡ ys → xs ≡ ys
same_list xs ys e = sym (map_same xs) ∙ e

at_place : {X : Type 0} (P : X → Type 0) (xs : List X) (y : X) (zs : List X) → AllByRecursion P (xs ++ y ∷ zs) → P y
at_place P [] y zs a = a.0
at_place P (x ∷ xs) y zs a = at_place P xs y zs a.1

-- those in front are below
all_before : {X : Type 0} (R : X → X → Ordering) → IsTotalOrder R → (xs : List X) (y : X) (zs : List X) → IsStrictlySortedBy R (xs ++ y ∷ zs) → AllByRecursion (λ x. R y x ≡ Greater) xs
all_before R total [] y zs s = tt
all_before R total (x ∷ xs) y zs s =
    let below : R x y ≡ Less = at_place (λ z. R x z ≡ Less) xs y zs (sorted_head R x (xs ++ y ∷ zs) s) in
    (total.antisymm y x ∙ ap ordering_reverse below, all_before R total xs y zs (sorted_tail R x (xs ++ y ∷ zs) s))

pub copied_more : {X : Type 0} (f : X → Named) (all rest : List X) (xs : List (Bor X)) (x : Bor X) (old new : List X) (k : X) → IsStrictlySortedBy (λ a b. named_cmp (f a) (f b)) all → all ≡ map deref xs ++ deref x ∷ rest
    → map f old ≡ map f (map deref xs) → new ≡ insert_key (λ a b. named_cmp (f a) (f b)) old k → f k ≡ f x.now → map f new ≡ map f (map deref (xs ++ x ∷ []))
copied_more f all rest xs x old new k s e w n q =
    let ys = map deref xs in
    let parts : map f all ≡ map f ys ++ f x.now ∷ map f rest = ap (map f) e ∙ map-append f ys (x.now ∷ rest) in
    let rises = subst (IsStrictlySortedBy named_cmp) parts (map_rises f named_cmp all s) in
    ap (map f) n ∙ map_inserted f named_cmp k old ∙ (λ i. insert_key named_cmp (w i) (q i))
    ∙ inserted_last named_cmp (f x.now) (map f ys) (all_before named_cmp named_total (map f ys) (f x.now) (map f rest) rises)
    ∙ sym (ap (map f) (map-append deref xs (x ∷ [])) ∙ map-append f ys (x.now ∷ []))
