-- Values whose parts fit, and how many items and entries their trees have.
use Rattle.std.proofs.Common.{◌≡◌, ℕ, ◌+◌, ◌<◌, ◌≤◌, ◌^◌, List, [], ◌∷◌, ◌++◌, length, take, get_or, refl, sym, ap, subst, ◌∙◌, arith, Box, Vec, Global}
use Rattle.std.proofs.lemmas.List.{take_more, take_all}
use Rattle.ciborium_value.specs.Tree.{tree_count, pair_count}
use Rattle.ciborium_value.specs.View.{view, views, view_pairs}
use Rattle.ciborium_value.specs.Encoding.{Fits, FitAll, FitPairs}
use Rattle.ciborium_value.specs.declared.value.Value.{Value}
use Rattle.ciborium_value.specs.declared.value.Value.TheVariants as code
use Rattle.ciborium_value.proofs.Views.{view_array, view_map, view_tag}

pub count_items : (vs : List Value) → tree_count (views vs) ≡ length vs
count_items [] = refl
count_items (v ∷ vs) = let h : tree_count (views vs) ≡ length vs = count_items vs in omega arith

pub count_entries : (ps : List (Value × Value)) → pair_count (view_pairs ps) ≡ length ps
count_entries [] = refl
count_entries (p ∷ ps) = let h : pair_count (view_pairs ps) ≡ length ps = count_entries ps in omega arith

one_item : (vs : List Value) (v : Value) → FitAll (views vs) → Fits (view v) → FitAll (views (vs ++ v ∷ []))
one_item [] v p q = (q, tt)
one_item (u ∷ vs) v p q = (p.0, one_item vs v p.1 q)

one_entry : (ps : List (Value × Value)) (p : Value × Value) → FitPairs (view_pairs ps) → Fits (view p.0) → Fits (view p.1) → FitPairs (view_pairs (ps ++ p ∷ []))
one_entry [] p h k v = (k, v, tt)
one_entry (q ∷ ps) p h k v = (h.0, h.1, one_entry ps p h.2 k v)

pub item_fits : (vs : List Value) (i : ℕ) (v : Value) → i < length vs → v ≡ get_or vs i v → FitAll (views (take i vs)) → Fits (view v) → FitAll (views (take (i + 1) vs))
item_fits vs i v l e p q =
    let P : List Value → Type 0 = λ z. FitAll (views z) in
    subst P (ap (λ z. take i vs ++ z ∷ []) e ∙ sym (take_more vs i v l)) (one_item (take i vs) v p q)

pub entry_fits : (ps : List (Value × Value)) (i : ℕ) (p : Value × Value) → i < length ps → p ≡ get_or ps i p → FitPairs (view_pairs (take i ps)) → Fits (view p.0) → Fits (view p.1)
    → FitPairs (view_pairs (take (i + 1) ps))
entry_fits ps i p l e h k v =
    let P : List (Value × Value) → Type 0 = λ z. FitPairs (view_pairs z) in
    subst P (ap (λ z. take i ps ++ z ∷ []) e ∙ sym (take_more ps i p l)) (one_entry (take i ps) p h k v)

-- a value whose parts fit
pub tag_fits : (a : Value) (n : ℕ) (b : Box Value Global) (v : Value) → a ≡ code.Tag n b → v ≡ b.value → n < 2 ^ 64 → Fits (view v) → Fits (view a)
tag_fits a n b v e l m p =
    let P : Value → Type 0 = λ z. Fits (view z) in
    subst Fits (sym (ap view e ∙ view_tag n b)) (m, subst P l p)

pub array_fits : (a : Value) (v : Vec Value Global) (xs : List Value) (i : ℕ) → a ≡ code.Array v → xs ≡ v.items → length xs < 2 ^ 64 → length xs ≤ i → FitAll (views (take i xs)) → Fits (view a)
array_fits a v xs i e l m n p =
    let count : tree_count (views v.items) ≡ length xs = count_items v.items ∙ ap length (sym l) in
    let P : List Value → Type 0 = λ z. FitAll (views z) in
    subst Fits (sym (ap view e ∙ view_array v)) (omega arith, subst P (take_all i xs n ∙ l) p)

pub map_fits : (a : Value) (v : Vec (Value × Value) Global) (xs : List (Value × Value)) (i : ℕ) → a ≡ code.Map v → xs ≡ v.items → length xs < 2 ^ 64 → length xs ≤ i
    → FitPairs (view_pairs (take i xs)) → Fits (view a)
map_fits a v xs i e l m n p =
    let count : pair_count (view_pairs v.items) ≡ length xs = count_entries v.items ∙ ap length (sym l) in
    let P : List (Value × Value) → Type 0 = λ z. FitPairs (view_pairs z) in
    subst Fits (sym (ap view e ∙ view_map v)) (omega arith, subst P (take_all i xs n ∙ l) p)
