-- One more part after those of a list, as trees.
use Rattle.std.proofs.Common.{◌≡◌, List, [], ◌∷◌, ◌++◌, refl, ap, ◌∙◌}
use Rattle.ciborium_value.specs.Tree.{Tree, Trees, one_more, Pairs, pair_more}
use Rattle.ciborium_value.specs.View.{view, views, view_pairs}
use Rattle.ciborium_value.specs.declared.value.Value.{Value}
use Rattle.ciborium.specs.Building.{one_last, pair_last}

last_view : (vs : List Value) (x : Value) → views (vs ++ (x ∷ [])) ≡ one_last (views vs) (view x)
last_view [] x = refl
last_view (v ∷ vs) x = ap (one_more (view v)) (last_view vs x)

pub views_last : (vs ws : List Value) (x : Value) (ts : Trees) (t : Tree) → ws ≡ vs ++ (x ∷ []) → views vs ≡ ts → view x ≡ t → views ws ≡ one_last ts t
views_last vs ws x ts t e f g = ap views e ∙ last_view vs x ∙ ap (λ z. one_last z (view x)) f ∙ ap (one_last ts) g

last_pair : (vs : List (Value × Value)) (k x : Value) → view_pairs (vs ++ ((k, x) ∷ [])) ≡ pair_last (view_pairs vs) (view k) (view x)
last_pair [] k x = refl
last_pair (v ∷ vs) k x = ap (pair_more (view v.0) (view v.1)) (last_pair vs k x)

pub pairs_last : (vs ws : List (Value × Value)) (k x : Value) (ps : Pairs) (s t : Tree) → ws ≡ vs ++ ((k, x) ∷ []) → view_pairs vs ≡ ps → view k ≡ s → view x ≡ t
    → view_pairs ws ≡ pair_last ps s t
pairs_last vs ws k x ps s t e f g h =
    ap view_pairs e ∙ last_pair vs k x ∙ ap (λ z. pair_last z (view k) (view x)) f ∙ ap (λ z. pair_last ps z (view x)) g ∙ ap (pair_last ps s) h
