-- Arrays whose items are written one after another.
use Rattle.std.proofs.Common.{◌≡◌, inl, inr, List, [], ◌∷◌, ◌++◌, map, Option, Some, None, option_map, option_and_then, refl, sym, ap, ◌∙◌}
use Rattle.std.proofs.lemmas.List.{map-append}
use Rattle.ciborium_value.specs.Tree.{Tree, array}
use Rattle.ciborium_value.specs.View.{trees, view}
use Rattle.ciborium_value.specs.declared.value.Value.{Value}
use Rattle.coset_labels.specs.Facts.Entries.{snoc_step}
use Rattle.coset_labels.specs.Arrays.{all_written, array_of}
use Rattle.coset_labels.specs.Faults.{CantWrite}
use Rattle.coset_labels.specs.declared.error.CoseError.{CoseError}

pub written_snoc : {F : Type 0} (written : F → Option Tree) (fs : List F) (f : F) (ts : List Tree) (t : Tree) → all_written written fs ≡ Some ts → written f ≡ Some t → all_written written (fs ++ f ∷ []) ≡ Some (ts ++ t ∷ [])
written_snoc written [] f ts t e q =
    let h : Some [] ≡ Some ts = e in
    let s : [] ≡ ts = cc in
    ap (λ o. option_and_then (λ m. option_map (λ es. m ∷ es) (Some [])) o) q ∙ ap (λ z. Some (z ++ t ∷ [])) s
written_snoc written (g ∷ gs) f ts t e q = snoc_step (λ z. z) (written g) (all_written written gs) _ ts t (λ us h. written_snoc written gs f us t h q) e

none_step : (o : Option Tree) → option_and_then (λ m. option_map (λ es. m ∷ es) None) o ≡ None
none_step None = refl
none_step (Some t) = refl

-- one that can't be written, among others
pub written_none : {F : Type 0} (written : F → Option Tree) (fs gs : List F) (f : F) → written f ≡ None → all_written written (fs ++ f ∷ gs) ≡ None
written_none written [] gs f e = ap (λ o. option_and_then (λ m. option_map (λ es. m ∷ es) (all_written written gs)) o) e
written_none written (x ∷ xs) gs f e = ap (λ w. option_and_then (λ m. option_map (λ es. m ∷ es) w) (written x)) (written_none written xs gs f e) ∙ none_step (written x)

-- the steps of a loop over the items
pub written_pushed : {T F : Type 0} (written : F → Option Tree) (h : T → F) (xs : List T) (x : T) (ys zs : List Value) (y : Value) → zs ≡ ys ++ y ∷ []
    → all_written written (map h xs) ≡ Some (map view ys) → written (h x) ≡ Some (view y) → all_written written (map h (xs ++ x ∷ [])) ≡ Some (map view zs)
written_pushed written h xs x ys zs y q e s =
    ap (all_written written) (map-append h xs (x ∷ [])) ∙ written_snoc written (map h xs) (h x) (map view ys) (view y) e s
    ∙ ap Some (sym (map-append view ys (y ∷ [])) ∙ ap (map view) (sym q))

pub cant_all : {T F : Type 0} (written : F → Option Tree) (h : T → F) (all xs ys : List T) (x : T) (e : CoseError) → all ≡ xs ++ x ∷ ys → CantWrite (written (h x)) e → CantWrite (array_of written (map h all)) e
cant_all written h all xs ys x e q (inl m) = inl m
cant_all written h all xs ys x e q (inr (d, n)) =
    inr (d, ap (option_map (λ ts. array (trees ts))) (ap (all_written written) (ap (map h) q ∙ map-append h xs (x ∷ ys)) ∙ written_none written (map h xs) (map h ys) (h x) n))
