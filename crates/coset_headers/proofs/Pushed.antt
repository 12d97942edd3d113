-- Entries that are appended to a map.
use Rattle.std.proofs.Common.{◌≡◌, ◌≢◌, ℕ, pos, inl, inr, false, cond, Vec, Global, List, [], ◌∷◌, ◌++◌, map, Some, None, option_map, refl, sym, ap, ◌∙◌, append-nil}
use Rattle.std.proofs.lemmas.List.{map-append}
use Rattle.ciborium_value.specs.Tree.{Tree, integer, array, map as map_tree, Trees}
use Rattle.ciborium_value.specs.View.{trees, pairs, view, view_pair}
use Rattle.ciborium_value.specs.declared.value.Value.{Value}
use Rattle.ciborium_value.specs.declared.value.Value.TheVariants as code
use Rattle.ciborium_value.proofs.Views.{view_map}
use Rattle.coset_labels.specs.Facts.Pushed.{back_one}
use Rattle.coset_labels.specs.Facts.Pushed as pushed
use Rattle.coset_labels.specs.Arrays.{all_written, array_of}
use Rattle.coset_labels.specs.Faults.{CantWrite}
use Rattle.coset_labels.specs.Fields.{LabelFields, Named}
use Rattle.coset_labels.specs.Labels.{label_tree, named_tree}
use Rattle.coset_labels.specs.View.{label_view}
use Rattle.coset_labels.specs.declared.error.CoseError.{CoseError}
use Rattle.coset_labels.specs.declared.error.CoseError.TheVariants.{Memory}
use Rattle.coset_labels.specs.declared.label.Label.{Label}
use Rattle.coset_headers.specs.Fields.{Plain}
use Rattle.coset_headers.specs.View.{entry_view}
use Rattle.coset_headers.specs.Written.{entry_of, crit_entry, bare_or_list, written_entries, entry_tree, tree_of, header_of, twice}
use Rattle.coset_headers.specs.Values.{values_of}
use Rattle.coset_headers.proofs.Wrote.{value_at}

names_written : (ns : List Named) → all_written (λ f. Some (named_tree f)) ns ≡ Some (map named_tree ns)
names_written [] = refl
names_written (n ∷ ns) = ap (option_map (λ ts. named_tree n ∷ ts)) (names_written ns)

list_written : (ns : List Named) → array_of (λ f. Some (named_tree f)) ns ≡ Some (array (trees (map named_tree ns)))
list_written ns = ap (option_map (λ ts. array (trees ts))) (names_written ns)

-- a list of names can always be written
pub cant_names : (ns : List Named) (e : CoseError) → CantWrite (array_of (λ f. Some (named_tree f)) ns) e → e ≡ Memory
cant_names ns e (inl m) = m
cant_names ns e (inr (d, n)) = let h : Some (array (trees (map named_tree ns))) ≡ None = sym (list_written ns) ∙ n in cc

pub crit_none : {A : Type 0} (f : A → Named) (xs : List (Tree × Tree)) (bs : List A) → bs ≡ [] → xs ≡ xs ++ map entry_tree (crit_entry (map f bs))
crit_none f xs bs e = sym (append-nil xs) ∙ ap (λ z. xs ++ map entry_tree (crit_entry (map f z))) (sym e)

crit_some : (ns : List Named) (t : Tree) → ns ≢ [] → t ≡ array (trees (map named_tree ns)) → (integer (pos 2), t) ∷ [] ≡ map entry_tree (crit_entry ns)
crit_some [] t n e = absurd (n refl)
crit_some (m ∷ ms) t n e = ap (λ z. (integer (pos 2), z) ∷ []) e

map_full : {A B : Type 0} (f : A → B) (bs : List A) → bs ≢ [] → map f bs ≢ []
map_full f [] n e = n refl
map_full f (x ∷ xs) n e = let h : f x ∷ map f xs ≡ [] = e in cc

pub crit_pushed : {A : Type 0} (f : A → Named) (bs : List A) (old new : List (Value × Value)) (k v : Value) → new ≡ old ++ (k, v) ∷ [] → view k ≡ integer (pos 2)
    → array_of (λ f. Some (named_tree f)) (map f bs) ≡ Some (view v) → bs ≢ [] → map view_pair new ≡ map view_pair old ++ map entry_tree (crit_entry (map f bs))
crit_pushed f bs old new k v e q w n =
    let h : Some (array (trees (map named_tree (map f bs)))) ≡ Some (view v) = sym (list_written (map f bs)) ∙ w in
    let same : view v ≡ array (trees (map named_tree (map f bs))) = cc in
    ap (map view_pair) e ∙ map-append view_pair old ((k, v) ∷ [])
    ∙ ap (λ z. map view_pair old ++ (z, view v) ∷ []) q
    ∙ ap (λ z. map view_pair old ++ z) (crit_some (map f bs) (view v) (map_full f bs n) same)

pub rest_pushed : (start old new : List (Value × Value)) (xs : List (Label × Value)) (x : Label × Value) (k : Value) → new ≡ old ++ (k, x.1) ∷ [] → Some (label_tree (label_view x.0)) ≡ Some (view k)
    → map view_pair old ≡ map view_pair start ++ map entry_tree (map entry_view xs) → map view_pair new ≡ map view_pair start ++ map entry_tree (map entry_view (xs ++ x ∷ []))
rest_pushed = pushed.rest_pushed label_tree label_view

-- ---- all entries in their order
abbrev pub piece : Plain → ℕ → List (LabelFields × Tree)
piece p n = entry_of n (value_at n 1 (values_of p))

pub map_done : (p : Plain) (ts : Trees) (v : Vec (Value × Value) Global) (l0 l1 l2 l3 l4 l5 l6 l7 : List (Tree × Tree)) → twice p.rest ≡ false → l0 ≡ []
    → l1 ≡ l0 ++ map entry_tree (piece p 1) → l2 ≡ l1 ++ map entry_tree (piece p 2) → l3 ≡ l2 ++ map entry_tree (piece p 3) → l4 ≡ l3 ++ map entry_tree (piece p 4)
    → l5 ≡ l4 ++ map entry_tree (piece p 5) → l6 ≡ l5 ++ map entry_tree (piece p 6) → l7 ≡ l6 ++ map entry_tree (entry_of 7 (bare_or_list ts)) → map view_pair v.items ≡ l7 ++ map entry_tree p.rest
    → header_of p ts ≡ Some (view (code.Map v))
map_done p ts v l0 l1 l2 l3 l4 l5 l6 l7 t e0 e1 e2 e3 e4 e5 e6 e7 e8 =
    let z = map view_pair v.items in
    let s7 = back_one entry_tree l6 l7 z (entry_of 7 (bare_or_list ts)) p.rest e8 e7 in
    let s6 = back_one entry_tree l5 l6 z (piece p 6) _ s7 e6 in
    let s5 = back_one entry_tree l4 l5 z (piece p 5) _ s6 e5 in
    let s4 = back_one entry_tree l3 l4 z (piece p 4) _ s5 e4 in
    let s3 = back_one entry_tree l2 l3 z (piece p 3) _ s4 e3 in
    let s2 = back_one entry_tree l1 l2 z (piece p 2) _ s3 e2 in
    let s1 = back_one entry_tree l0 l1 z (piece p 1) _ s2 e1 in
    let whole : map view_pair v.items ≡ map entry_tree (written_entries p (bare_or_list ts)) = s1 ∙ ap (λ y. y ++ map entry_tree (written_entries p (bare_or_list ts))) e0 in
    ap (λ b. cond b None (Some (tree_of (written_entries p (bare_or_list ts))))) t ∙ ap Some (ap (λ y. map_tree (pairs y)) (sym whole) ∙ sym (view_map v))
