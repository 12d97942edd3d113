-- The foldings of arrays, maps and tags by those of their parts.
use Rattle.std.proofs.Common.{◌≡◌, ◌⊎◌, inl, inr, ◌<◌, ℕ, zero, suc, List, [], ◌∷◌, length, get_or, map, take, Option, None, Some, refl, sym, ap, ◌∙◌, arith, Vec, Box, Global}
use Rattle.std.specs.Option.{option_map, option_and_then}
use Rattle.ciborium_value.specs.Tree as spec
use Rattle.ciborium_value.specs.Tree.{Tree, Trees, Pairs}
use Rattle.ciborium_value.specs.View.{view, views, view_pairs}
use Rattle.ciborium_value.specs.Folding.{fold, fold_all_by, fold_pairs_by, tagged, IsTooNegative}
use Rattle.ciborium_value.specs.declared.value.Value.{Value}
use Rattle.ciborium_value.specs.declared.value.Value.TheVariants as code
use Rattle.ciborium_value.proofs.Views.{view_array, view_map, view_tag}

abbrev pub fold_of : Value → Option Tree
fold_of v = fold (view v)

abbrev pub some_view : Value → Option Tree
some_view v = Some (view v)

abbrev pub folds_of : Value × Value → Option Tree × Option Tree
folds_of p = (fold_of p.0, fold_of p.1)

abbrev pub some_views : Value × Value → Option Tree × Option Tree
some_views p = (some_view p.0, some_view p.1)

abbrev fold_items : List Value → Option Trees
fold_items vs = fold_all_by (λ n. Some (spec.simple n)) (views vs)

abbrev fold_entries : List (Value × Value) → Option Pairs
fold_entries ps = fold_pairs_by (λ n. Some (spec.simple n)) (view_pairs ps)

items_folded : (vs ws : List Value) → map some_view ws ≡ map fold_of vs → fold_items vs ≡ Some (views ws)
items_folded [] [] e = refl
items_folded [] (w ∷ ws) e = cc
items_folded (v ∷ vs) [] e = cc
items_folded (v ∷ vs) (w ∷ ws) e =
    let f : fold_of v ≡ Some (view w) = cc in
    let r : map some_view ws ≡ map fold_of vs = cc in
    ap (option_and_then (λ u. option_map (spec.one_more u) (fold_items vs))) f ∙ ap (option_map (spec.one_more (view w))) (items_folded vs ws r)

entries_folded : (ps qs : List (Value × Value)) → map some_views qs ≡ map folds_of ps → fold_entries ps ≡ Some (view_pairs qs)
entries_folded [] [] e = refl
entries_folded [] (q ∷ qs) e = cc
entries_folded (p ∷ ps) [] e = cc
entries_folded (p ∷ ps) (q ∷ qs) e =
    let h : some_views q ≡ folds_of p = cc in
    let k : fold_of p.0 ≡ Some (view q.0) = sym (ap (λ (z : Option Tree × Option Tree). z.0) h) in
    let v : fold_of p.1 ≡ Some (view q.1) = sym (ap (λ (z : Option Tree × Option Tree). z.1) h) in
    let r : map some_views qs ≡ map folds_of ps = cc in
    ap (option_and_then (λ a. option_and_then (λ b. option_map (spec.pair_more a b) (fold_entries ps)) (fold_of p.1))) k
    ∙ ap (option_and_then (λ b. option_map (spec.pair_more (view q.0) b) (fold_entries ps))) v
    ∙ ap (option_map (spec.pair_more (view q.0) (view q.1))) (entries_folded ps qs r)

-- one part has no folding
rest_none : (m : Option Tree) (r : Option Trees) → r ≡ None → option_and_then (λ u. option_map (spec.one_more u) r) m ≡ None
rest_none None r e = refl
rest_none (Some u) r e = ap (option_map (spec.one_more u)) e

items_none : (vs : List Value) (i : ℕ) (v : Value) → i < length vs → v ≡ get_or vs i v → fold_of v ≡ None → fold_items vs ≡ None
items_none [] i v l e f = absurd (omega arith)
items_none (w ∷ vs) zero v l e f = ap (option_and_then (λ u. option_map (spec.one_more u) (fold_items vs))) (ap fold_of (sym e) ∙ f)
items_none (w ∷ vs) (suc i) v l e f = rest_none (fold_of w) (fold_items vs) (items_none vs i v (omega arith) e f)

value_none : (m n : Option Tree) (r : Option Pairs) → n ≡ None → option_and_then (λ a. option_and_then (λ b. option_map (spec.pair_more a b) r) n) m ≡ None
value_none None n r e = refl
value_none (Some a) n r e = ap (option_and_then (λ b. option_map (spec.pair_more a b) r)) e

entries_rest : (m n : Option Tree) (r : Option Pairs) → r ≡ None → option_and_then (λ a. option_and_then (λ b. option_map (spec.pair_more a b) r) n) m ≡ None
entries_rest None n r e = refl
entries_rest (Some a) None r e = refl
entries_rest (Some a) (Some b) r e = ap (option_map (spec.pair_more a b)) e

entries_none : (ps : List (Value × Value)) (i : ℕ) (p : Value × Value) → i < length ps → p ≡ get_or ps i p → (fold_of p.0 ≡ None) ⊎ (fold_of p.1 ≡ None) → fold_entries ps ≡ None
entries_none [] i p l e f = absurd (omega arith)
entries_none (q ∷ ps) zero p l e (inl f) = ap (option_and_then (λ a. option_and_then (λ b. option_map (spec.pair_more a b) (fold_entries ps)) (fold_of q.1))) (ap (λ (z : Value × Value). fold_of z.0) (sym e) ∙ f)
entries_none (q ∷ ps) zero p l e (inr f) = value_none (fold_of q.0) (fold_of q.1) (fold_entries ps) (ap (λ (z : Value × Value). fold_of z.1) (sym e) ∙ f)
entries_none (q ∷ ps) (suc i) p l e f = entries_rest (fold_of q.0) (fold_of q.1) (fold_entries ps) (entries_none ps i p (omega arith) e f)

pub array_none : (a : Value) (v : Vec Value Global) (xs : List Value) (i : ℕ) (x : Value) → a ≡ code.Array v → xs ≡ v.items → i < length xs → x ≡ get_or xs i x → fold (view x) ≡ None → fold (view a) ≡ None
array_none a v xs i x e l h g f = ap fold (ap view e ∙ view_array v) ∙ ap (λ z. option_map spec.array (fold_items z)) (sym l) ∙ ap (option_map spec.array) (items_none xs i x h g f)

pub array_folded : (a : Value) (v : Vec Value Global) (xs : List Value) (w : Vec Value Global) (i : ℕ) → a ≡ code.Array v → xs ≡ v.items → map some_view w.items ≡ map fold_of (take i xs) → take i xs ≡ xs → fold (view a) ≡ Some (view (code.Array w))
array_folded a v xs w i e l h t =
    ap fold (ap view e ∙ view_array v) ∙ ap (λ z. option_map spec.array (fold_items z)) (sym l)
    ∙ ap (option_map spec.array) (items_folded xs w.items (h ∙ ap (map fold_of) t)) ∙ ap Some (sym (view_array w))

pub map_none : (a : Value) (v : Vec (Value × Value) Global) (xs : List (Value × Value)) (i : ℕ) (x : Value × Value) → a ≡ code.Map v → xs ≡ v.items → i < length xs → x ≡ get_or xs i x
    → (fold (view x.0) ≡ None) ⊎ (fold (view x.1) ≡ None) → fold (view a) ≡ None
map_none a v xs i x e l h g f = ap fold (ap view e ∙ view_map v) ∙ ap (λ z. option_map spec.map (fold_entries z)) (sym l) ∙ ap (option_map spec.map) (entries_none xs i x h g f)

pub map_folded : (a : Value) (v : Vec (Value × Value) Global) (xs : List (Value × Value)) (w : Vec (Value × Value) Global) (i : ℕ) → a ≡ code.Map v → xs ≡ v.items → map some_views w.items ≡ map folds_of (take i xs) → take i xs ≡ xs
    → fold (view a) ≡ Some (view (code.Map w))
map_folded a v xs w i e l h t =
    ap fold (ap view e ∙ view_map v) ∙ ap (λ z. option_map spec.map (fold_entries z)) (sym l)
    ∙ ap (option_map spec.map) (entries_folded xs w.items (h ∙ ap (map folds_of) t)) ∙ ap Some (sym (view_map w))

pub tag_folded : (a : Value) (n : ℕ) (b : Box Value Global) (v c : Value) → a ≡ code.Tag n b → v ≡ b.value → fold (view v) ≡ Some (view c) → fold (view a) ≡ tagged n (view c)
tag_folded a n b v c e l f = ap fold (ap view e ∙ view_tag n b) ∙ ap (λ z. option_and_then (tagged n) (fold (view z))) (sym l) ∙ ap (option_and_then (tagged n)) f

pub too_negative : (n : ℕ) (t : Tree) → IsTooNegative n t → tagged n t ≡ None
too_negative n t p = ap (λ z. tagged z t) p.0 ∙ ap (tagged 3) p.2 ∙ p.3
