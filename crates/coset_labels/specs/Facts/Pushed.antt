-- Entries that are appended to a map.
use Rattle.std.proofs.Common.{◌≡◌, List, [], ◌∷◌, ◌++◌, map, Some, sym, ap, ◌∙◌, append_assoc}
use Rattle.std.proofs.lemmas.List.{map-append}
use Rattle.ciborium_value.specs.Tree.{Tree}
use Rattle.ciborium_value.specs.View.{view, view_pair}
use Rattle.ciborium_value.specs.declared.value.Value.{Value}

-- one more entry at the end
pub rest_pushed : {A K : Type 0} (tree : K → Tree) (key : A → K) (start old new : List (Value × Value)) (xs : List (A × Value)) (x : A × Value) (k : Value) → new ≡ old ++ (k, x.1) ∷ [] → Some (tree (key x.0)) ≡ Some (view k)
    → map view_pair old ≡ map view_pair start ++ map (λ (e : K × Tree). (tree e.0, e.1)) (map (λ (e : A × Value). (key e.0, view e.1)) xs)
    → map view_pair new ≡ map view_pair start ++ map (λ (e : K × Tree). (tree e.0, e.1)) (map (λ (e : A × Value). (key e.0, view e.1)) (xs ++ x ∷ []))
rest_pushed {A = A} {K = K} tree key start old new xs x k e q w =
    let entry_tree : K × Tree → Tree × Tree = λ e. (tree e.0, e.1) in
    let entry_view : A × Value → K × Tree = λ e. (key e.0, view e.1) in
    let same : view k ≡ tree (key x.0) = cc in
    ap (map view_pair) e ∙ map-append view_pair old ((k, x.1) ∷ [])
    ∙ ap (λ z. map view_pair old ++ (z, view x.1) ∷ []) same
    ∙ ap (λ z. z ++ entry_tree (entry_view x) ∷ []) w
    ∙ append_assoc (map view_pair start) (map entry_tree (map entry_view xs)) (entry_tree (entry_view x) ∷ [])
    ∙ ap (λ z. map view_pair start ++ z) (sym (map-append entry_tree (map entry_view xs) (entry_view x ∷ [])) ∙ ap (map entry_tree) (sym (map-append entry_view xs (x ∷ []))))

-- two runs of entries are one
pub back_one : {E : Type 0} (entry_tree : E → Tree × Tree) (l k z : List (Tree × Tree)) (a s : List E) → z ≡ k ++ map entry_tree s → k ≡ l ++ map entry_tree a → z ≡ l ++ map entry_tree (a ++ s)
back_one entry_tree l k z a s e f =
    e ∙ ap (λ y. y ++ map entry_tree s) f ∙ append_assoc l (map entry_tree a) (map entry_tree s) ∙ ap (λ y. l ++ y) (sym (map-append entry_tree a s))
