-- Entries of a key that are appended to a map.
use Rattle.std.proofs.Common.{◌≡◌, ◌≢◌, ℕ, pos, Bool, true, false, cond, length, arith, Vec, Global, List, [], ◌∷◌, ◌++◌, map, Some, None, refl, sym, ap, ◌∙◌, append-nil}
use Rattle.std.specs.Prelude.{IsTrue, ◌↔◌}
use Rattle.std.proofs.lemmas.List.{map-append}
use Rattle.ciborium_value.specs.Tree.{Tree, integer, array, map as map_tree}
use Rattle.ciborium_value.specs.View.{trees, pairs, view, view_pair}
use Rattle.ciborium_value.specs.declared.value.Value.{Value}
use Rattle.ciborium_value.specs.declared.value.Value.TheVariants as code
use Rattle.ciborium_value.proofs.Views.{view_map, view_array}
use Rattle.coset_labels.specs.Facts.Pushed.{back_one}
use Rattle.coset_labels.specs.Fields.{number, Named}
use Rattle.coset_labels.specs.Labels.{named_tree}
use Rattle.coset_headers.specs.Written.{name_entry, bytes_entry, entry_tree, tree_of, twice}
use Rattle.coset_keys.specs.Fields.{KeyFields}
use Rattle.coset_keys.specs.Written.{ops_entry, key_entries, key_tree}

pub one_pushed : (old new : List (Value × Value)) (k v : Value) (n : ℕ) (t : Tree) → new ≡ old ++ (k, v) ∷ [] → view k ≡ integer (pos n) → view v ≡ t
    → map view_pair new ≡ map view_pair old ++ map entry_tree ((number (pos n), t) ∷ [])
one_pushed old new k v n t e q w =
    ap (map view_pair) e ∙ map-append view_pair old ((k, v) ∷ []) ∙ (λ i. map view_pair old ++ (q i, w i) ∷ [])

pub ops_none : (xs : List (Tree × Tree)) (ns : List Named) → ns ≡ [] → xs ≡ xs ++ map entry_tree (ops_entry ns)
ops_none xs ns e = sym (append-nil xs) ∙ ap (λ z. xs ++ map entry_tree (ops_entry z)) (sym e)

ops_some : (ns : List Named) (t : Tree) → ns ≢ [] → t ≡ array (trees (map named_tree ns)) → (integer (pos 4), t) ∷ [] ≡ map entry_tree (ops_entry ns)
ops_some [] t n e = absurd (n refl)
ops_some (m ∷ ms) t n e = ap (λ z. (integer (pos 4), z) ∷ []) e

pub ops_pushed : (old new : List (Value × Value)) (k : Value) (items : Vec Value Global) (ns : List Named) → new ≡ old ++ (k, code.Array items) ∷ [] → view k ≡ integer (pos 4)
    → map view items.items ≡ map named_tree ns → ns ≢ [] → map view_pair new ≡ map view_pair old ++ map entry_tree (ops_entry ns)
ops_pushed old new k items ns e q w n =
    one_pushed old new k (code.Array items) 4 (array (trees (map named_tree ns))) e q (view_array items ∙ ap (λ z. array (trees z)) w)
    ∙ ap (λ z. map view_pair old ++ z) (ops_some ns (array (trees (map named_tree ns))) n refl)

length_none : {A : Type 0} (xs : List A) → length xs ≡ 0 → xs ≡ []
length_none [] e = refl
length_none (x ∷ xs) e = absurd (omega (arith, e))

pub none_of : {A B : Type 0} (f : A → B) (xs : List A) (b : Bool) → IsTrue b ↔ (length xs ≡ 0) → b ≡ true → map f xs ≡ []
none_of f xs b h e = ap (map f) (length_none xs (h.0 e))

full_map : {A B : Type 0} (f : A → B) (xs : List A) → (length xs ≡ 0 → ⊥) → map f xs ≢ []
full_map f [] n e = n refl
full_map f (x ∷ xs) n e = let h : f x ∷ map f xs ≡ [] = e in cc

pub some_of : {A B : Type 0} (f : A → B) (xs : List A) (b : Bool) → IsTrue b ↔ (length xs ≡ 0) → b ≡ false → map f xs ≢ []
some_of f xs b h e = full_map f xs (λ z. let c : false ≡ true = sym e ∙ h.1 z in cc)

-- ---- all entries in their order
pub key_done : (k : KeyFields) (v : Vec (Value × Value) Global) (l0 l1 l2 l3 l4 l5 : List (Tree × Tree)) → twice k.params ≡ false → l0 ≡ []
    → l1 ≡ l0 ++ map entry_tree (name_entry 1 (Some k.kty)) → l2 ≡ l1 ++ map entry_tree (bytes_entry 2 k.key_id) → l3 ≡ l2 ++ map entry_tree (name_entry 3 k.alg)
    → l4 ≡ l3 ++ map entry_tree (ops_entry k.key_ops) → l5 ≡ l4 ++ map entry_tree (bytes_entry 5 k.base_iv) → map view_pair v.items ≡ l5 ++ map entry_tree k.params
    → key_tree k ≡ Some (view (code.Map v))
key_done k v l0 l1 l2 l3 l4 l5 t e0 e1 e2 e3 e4 e5 e6 =
    let z = map view_pair v.items in
    let s5 = back_one entry_tree l4 l5 z (bytes_entry 5 k.base_iv) k.params e6 e5 in
    let s4 = back_one entry_tree l3 l4 z (ops_entry k.key_ops) _ s5 e4 in
    let s3 = back_one entry_tree l2 l3 z (name_entry 3 k.alg) _ s4 e3 in
    let s2 = back_one entry_tree l1 l2 z (bytes_entry 2 k.key_id) _ s3 e2 in
    let s1 = back_one entry_tree l0 l1 z (name_entry 1 (Some k.kty)) _ s2 e1 in
    let whole : map view_pair v.items ≡ map entry_tree (key_entries k) = s1 ∙ ap (λ y. y ++ map entry_tree (key_entries k)) e0 in
    ap (λ b. cond b None (Some (tree_of (key_entries k)))) t ∙ ap Some (ap (λ y. map_tree (pairs y)) (sym whole) ∙ sym (view_map v))
