-- What one step of the reader shows, over plain variables.
use Rattle.std.proofs.Common.{◌≡◌, ◌≢◌, pos, inr, List, [], ◌∷◌, ◌++◌, map, true, false, Some, refl, sym, ap, subst, ◌∙◌}
use Rattle.std.specs.List.{list_any}
use Rattle.std.specs.List.Sorted.{IsStrictlySortedBy}
use Rattle.std.specs.BTreeSet.{insert_key}
use Rattle.std.specs.Ordering.{eq_by_cmp}
use Rattle.std.proofs.lemmas.List.{map-append}
use Rattle.cose_iana.specs.Keys.{key_operations}
use Rattle.ciborium_value.specs.Tree.{Tree, array, map as map_tree, Trees, no_trees, one_more, Pairs}
use Rattle.ciborium_value.specs.View.{trees, view, views, view_pairs}
use Rattle.ciborium_value.specs.declared.value.Value.{Value}
use Rattle.coset_labels.specs.Entries.{IsIn, IsField}
use Rattle.coset_labels.specs.Facts.Walks.{passed_on, items_at, entry_read}
use Rattle.coset_labels.specs.Faults.{OrMemory, fault_of, unexpected}
use Rattle.coset_labels.specs.Fields.{LabelFields, number, Named}
use Rattle.ciborium_value.specs.Kinds.{is_map, is_array}
use Rattle.coset_labels.specs.Labels.{label_of, WrongLabel, WrongRegistered}
use Rattle.coset_labels.specs.Orders.{named_cmp}
use Rattle.coset_labels.specs.declared.error.CoseError.{CoseError}
use Rattle.coset_labels.specs.declared.label.Label.{Label}
use Rattle.coset_labels.specs.declared.seen_labels.SeenLabels.{SeenLabels}
use Rattle.coset_headers.specs.Headers.{entries, at}
use Rattle.coset_headers.specs.Parts.{SeesLabels}
use Rattle.coset_keys.specs.Fields.{KeyFields, reserved}
use Rattle.coset_keys.specs.Keys.{type_of, operation_of, operations_of, Rises, HasOperations, HasKey, HaveKeys}
use Rattle.coset_keys.specs.Parts.{Fills, Known, KnownIn, Added, HasEntries}
use Rattle.coset_keys.specs.View.{key_view}
use Rattle.coset_keys.specs.Wrong.{WrongOperations, no_list, empty_list, bad_operation, operation_again, WrongValue, wrong_key_ops, WrongEntry, bad_label, bad_value, WrongEntries, WrongKey, no_map, at_entry, no_type, WrongKeys, WrongKeySet, no_key_list, in_key}
use Rattle.coset_keys.specs.declared.key.CoseKey.{CoseKey}
use Rattle.coset_keys.proofs.Entered.{known_more}
use Rattle.coset_keys.proofs.Firsts.{first_of}
use Rattle.coset_keys.proofs.Collected.{operations_pushed, no_operation, rises_more, there_before}

-- ---- operations
-- the operations of some items
pub record Listed (ts : Trees) (ns : List Named) : Type 0 where
  pub listed : List Named
  pub read : operations_of ts ≡ Some listed
  pub rises : Rises listed ns

pub none_listed : Listed no_trees []
none_listed = record { listed = []; read = refl; rises = no_operation }

pub listed_more : (xs : List Value) (x : Value) (ns us : List Named) (n : Named) → Listed (views xs) ns → operation_of (view x) ≡ Some n → list_any (eq_by_cmp named_cmp n) ns ≡ false
    → us ≡ insert_key named_cmp ns n → IsStrictlySortedBy named_cmp us → Listed (views (xs ++ x ∷ [])) us
listed_more xs x ns us n w q e u s = record {
  listed = w.listed ++ n ∷ [];
  read = operations_pushed xs x w.listed n w.read q;
  rises = subst (Rises (w.listed ++ n ∷ [])) (sym u) (rises_more w.listed ns n w.rises e (subst (IsStrictlySortedBy named_cmp) u s));
}

listed_full : (vs : List Value) (ms : List Named) → vs ≢ [] → operations_of (views vs) ≡ Some ms → ms ≢ []
listed_full [] ms f e = absurd (f refl)
listed_full (v ∷ vs) ms f e = λ q.
    let w = first_of (λ n. n) (operation_of (view v)) (operations_of (views vs)) ms e in
    let h : w.first ∷ w.rest ≡ [] = sym w.whole ∙ q in
    cc

pub ops_done : (t : Tree) (vs : List Value) (ns : List Named) → t ≡ array (views vs) → vs ≢ [] → Listed (views vs) ns → HasOperations t ns
ops_done t vs ns q f w = record { items = views vs; listed = w.listed; list = q; read = w.read; nonempty = listed_full vs w.listed f w.read; rises = w.rises }

pub ops_bad : (t : Tree) (all xs ys : List Value) (x : Value) (e : CoseError) → t ≡ array (views all) → all ≡ xs ++ x ∷ ys → OrMemory (WrongRegistered key_operations.is_registered (view x)) e → OrMemory (WrongOperations t) e
ops_bad t all xs ys x e q r w = passed_on (WrongRegistered key_operations.is_registered (view x)) (WrongOperations t) e
    (λ z. bad_operation (map view xs) (map view ys) (view x) (q ∙ ap array (items_at all xs ys x r)) z) w

pub ops_again : (t : Tree) (all xs ys : List Value) (x : Value) (ns : List Named) (n : Named) → t ≡ array (views all) → all ≡ xs ++ x ∷ ys → Listed (views xs) ns → operation_of (view x) ≡ Some n
    → list_any (eq_by_cmp named_cmp n) ns ≡ true → WrongOperations t unexpected
ops_again t all xs ys x ns n q r w o e = operation_again (map view xs) (map view ys) (view x) w.listed n (q ∙ ap array (items_at all xs ys x r)) w.read o (there_before w.listed ns n w.rises e) refl

pub ops_kind : (t : Tree) (e : CoseError) → (fault_of e ≡ unexpected) × (is_array t ≡ false) → OrMemory (WrongOperations t) e
ops_kind t e p = inr (no_list p.1 p.0)

pub ops_empty : (t : Tree) (vs : List Value) → t ≡ array (views vs) → vs ≡ [] → WrongOperations t unexpected
ops_empty t vs q r = empty_list (q ∙ ap (λ z. array (views z)) r) refl

-- ---- an entry
pub value_ops : (v : Tree) (l : LabelFields) (e : CoseError) → l ≡ number (pos 4) → OrMemory (WrongOperations v) e → OrMemory (WrongValue v l) e
value_ops v l e q w = passed_on (WrongOperations v) (WrongValue v l) e (λ x. wrong_key_ops q x) w

pub entry_label : (es : List (LabelFields × Tree)) (l v : Tree) (e : CoseError) → OrMemory (WrongLabel l) e → OrMemory (WrongEntry es l v) e
entry_label es l v e w = passed_on (WrongLabel l) (WrongEntry es l v) e (λ x. bad_label x) w

pub entry_value : (es : List (LabelFields × Tree)) (l v : Tree) (m : LabelFields) (e : CoseError) → label_of l ≡ Some m → (IsIn m es → ⊥) → OrMemory (WrongValue v m) e → OrMemory (WrongEntry es l v) e
entry_value es l v m e q d w = passed_on (WrongValue v m) (WrongEntry es l v) e (λ x. bad_value m q d x) w

pub entry_added : (es : List (LabelFields × Tree)) (l v : Tree) (s : SeenLabels Label) (old new : CoseKey) (m : LabelFields) → Known es (key_view old) → label_of l ≡ Some m → (IsIn m es → ⊥)
    → ((v : Tree) → SeesLabels s (es ++ (m, v) ∷ [])) → Fills m v (key_view old) (key_view new) → Added es l v s new
entry_added es l v s old new m w q d z f = record { key = m; is = q; known = record { sees = z v; known = known_more es (key_view old) (key_view new) m v w d f } }

-- ---- the entries of a map
pub entries_pushed : (xs : List (Value × Value)) (x : Value × Value) (es : List (LabelFields × Tree)) (s : SeenLabels Label) (k : CoseKey) → entries (view_pairs xs) ≡ Some es → Added es (view x.0) (view x.1) s k
    → (fs : List (LabelFields × Tree)) × (entries (view_pairs (xs ++ x ∷ [])) ≡ Some fs) × KnownIn fs s k
entries_pushed xs x es s k r a =
    (es ++ (a.key, view x.1) ∷ [], entry_read label_of xs x es a.key r a.is, a.known)

-- ---- a key
pub key_kind : (t : Tree) (e : CoseError) → (fault_of e ≡ unexpected) × (is_map t ≡ false) → OrMemory (WrongKey t) e
key_kind t e p = inr (no_map p.1 p.0)

pub key_inside : (t : Tree) (ps : Pairs) (e : CoseError) → t ≡ map_tree ps → OrMemory (WrongEntries ps) e → OrMemory (WrongKey t) e
key_inside t ps e q w = passed_on (WrongEntries ps) (WrongKey t) e (λ x. at_entry ps q x) w

pub key_untyped : (t : Tree) (ps : Pairs) (k : KeyFields) → t ≡ map_tree ps → HasEntries ps k → k.kty ≡ reserved → WrongKey t unexpected
key_untyped t ps k q w e = no_type ps w.es q w.entries_are (subst (λ z. IsField type_of reserved (at 1 w.es) z) e w.known.fields.kty) refl

pub key_has : (t : Tree) (ps : Pairs) (k : KeyFields) → t ≡ map_tree ps → HasEntries ps k → k.kty ≢ reserved → HasKey t k
key_has t ps k q w n = record { pairs = ps; es = w.es; map = q; labels = w.entries_are; distinct = w.known.distinct; fields = w.known.fields; typed = n }

-- ---- a set of keys
keys_snoc : (ts : List Tree) (t : Tree) (ks : List KeyFields) (k : KeyFields) → HaveKeys (trees ts) ks → HasKey t k → HaveKeys (trees (ts ++ t ∷ [])) (ks ++ k ∷ [])
keys_snoc [] t [] k a b = (t, no_trees, refl, b, refl)
keys_snoc [] t (u ∷ us) k a b = let e : no_trees ≡ one_more a.0 a.1 = a.2 in cc
keys_snoc (x ∷ xs) t [] k a b = let e : one_more x (trees xs) ≡ no_trees = a in cc
keys_snoc (x ∷ xs) t (u ∷ us) k a b =
    let e : one_more x (trees xs) ≡ one_more a.0 a.1 = a.2 in
    let e0 : a.0 ≡ x = cc in
    let e1 : a.1 ≡ trees xs = cc in
    (x, trees (xs ++ t ∷ []), refl, subst (λ z. HasKey z u) e0 a.3, keys_snoc xs t us k (subst (λ z. HaveKeys z us) e1 a.4) b)

pub keys_pushed : (xs : List Value) (x : Value) (ks us : List CoseKey) (k : CoseKey) → us ≡ ks ++ k ∷ [] → HaveKeys (views xs) (map key_view ks) → HasKey (view x) (key_view k)
    → HaveKeys (views (xs ++ x ∷ [])) (map key_view us)
keys_pushed xs x ks us k e a b =
    subst (λ z. HaveKeys z (map key_view us)) (ap trees (sym (map-append view xs (x ∷ []))))
    (subst (HaveKeys (trees (map view xs ++ view x ∷ []))) (sym (map-append key_view ks (k ∷ [])) ∙ ap (map key_view) (sym e))
    (keys_snoc (map view xs) (view x) (map key_view ks) (key_view k) a b))

pub set_kind : (t : Tree) (e : CoseError) → (fault_of e ≡ unexpected) × (is_array t ≡ false) → OrMemory (WrongKeySet t) e
set_kind t e p = inr (no_key_list p.1 p.0)

pub set_inside : (t : Tree) (ts : Trees) (e : CoseError) → t ≡ array ts → OrMemory (WrongKeys ts) e → OrMemory (WrongKeySet t) e
set_inside t ts e q w = passed_on (WrongKeys ts) (WrongKeySet t) e (λ x. in_key ts q x) w
