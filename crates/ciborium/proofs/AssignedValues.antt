-- Values whose simple values are assigned, from those of their parts.
use Rattle.std.proofs.Common.{◌≡◌, ℕ, ◌+◌, ◌<◌, ◌≤◌, List, [], ◌∷◌, ◌++◌, length, take, get_or, sym, ap, subst, ◌∙◌, Vec, Global}
use Rattle.std.proofs.lemmas.List.{take_more, take_all}
use Rattle.ciborium_value.specs.View.{view, views, view_pairs}
use Rattle.ciborium_value.specs.declared.value.Value.{Value}
use Rattle.ciborium_value.specs.declared.value.Value.TheVariants as code
use Rattle.ciborium_value.proofs.Views.{view_array, view_map}
use Rattle.ciborium.specs.Meaning.{Assigned, AllAssigned, PairsAssigned}

one_item : (vs : List Value) (v : Value) → AllAssigned (views vs) → Assigned (view v) → AllAssigned (views (vs ++ v ∷ []))
one_item [] v p q = (q, tt)
one_item (u ∷ vs) v p q = (p.0, one_item vs v p.1 q)

one_entry : (ps : List (Value × Value)) (p : Value × Value) → PairsAssigned (view_pairs ps) → Assigned (view p.0) → Assigned (view p.1) → PairsAssigned (view_pairs (ps ++ p ∷ []))
one_entry [] p h k v = (k, v, tt)
one_entry (q ∷ ps) p h k v = (h.0, h.1, one_entry ps p h.2 k v)

pub item_assigned : (vs : List Value) (i : ℕ) (v : Value) → i < length vs → v ≡ get_or vs i v → AllAssigned (views (take i vs)) → Assigned (view v) → AllAssigned (views (take (i + 1) vs))
item_assigned vs i v l e p q =
    let P : List Value → Type 0 = λ z. AllAssigned (views z) in
    subst P (ap (λ z. take i vs ++ z ∷ []) e ∙ sym (take_more vs i v l)) (one_item (take i vs) v p q)

pub entry_assigned : (ps : List (Value × Value)) (i : ℕ) (p : Value × Value) → i < length ps → p ≡ get_or ps i p → PairsAssigned (view_pairs (take i ps)) → Assigned (view p.0) → Assigned (view p.1)
    → PairsAssigned (view_pairs (take (i + 1) ps))
entry_assigned ps i p l e h k v =
    let P : List (Value × Value) → Type 0 = λ z. PairsAssigned (view_pairs z) in
    subst P (ap (λ z. take i ps ++ z ∷ []) e ∙ sym (take_more ps i p l)) (one_entry (take i ps) p h k v)

-- a value over its parts
pub array_assigned : (a : Value) (v : Vec Value Global) (xs : List Value) (i : ℕ) → a ≡ code.Array v → xs ≡ v.items → length xs ≤ i → AllAssigned (views (take i xs)) → Assigned (view a)
array_assigned a v xs i e l n p =
    let P : List Value → Type 0 = λ z. AllAssigned (views z) in
    subst Assigned (sym (ap view e ∙ view_array v)) (subst P (take_all i xs n ∙ l) p)

pub map_assigned : (a : Value) (v : Vec (Value × Value) Global) (xs : List (Value × Value)) (i : ℕ) → a ≡ code.Map v → xs ≡ v.items → length xs ≤ i → PairsAssigned (view_pairs (take i xs)) → Assigned (view a)
map_assigned a v xs i e l n p =
    let P : List (Value × Value) → Type 0 = λ z. PairsAssigned (view_pairs z) in
    subst Assigned (sym (ap view e ∙ view_map v)) (subst P (take_all i xs n ∙ l) p)
