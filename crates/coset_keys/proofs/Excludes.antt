-- A value with a fault is no key.
use Rattle.std.proofs.Common.{◌≡◌, ◌≢◌, ℕ, ⊎_elim, List, [], ◌∷◌, ◌++◌, true, false, Option, Some, None, option_map, sym, ap, subst, ◌∙◌}
use Rattle.std.specs.List.{Contains, IsDistinct, AllByRecursion}
use Rattle.std.specs.Ordering.{eq_by_cmp}
use Rattle.std.proofs.lemmas.Map.Keys.{IsDistinct-head, IsDistinct-tail}
use Rattle.cose_iana.specs.Algorithms.{is_algorithm}
use Rattle.cose_iana.specs.Keys.{key_types, key_operations}
use Rattle.cose_iana.specs.Registry.{is_private_use}
use Rattle.ciborium_value.specs.Tree.{Tree, array, map as map_tree, no_trees, one_more}
use Rattle.ciborium_value.specs.View.{trees}
use Rattle.coset_labels.specs.Entries.{Distinct, IsField}
use Rattle.coset_labels.specs.Facts.Entries.{label_only}
use Rattle.coset_labels.specs.Facts.Wrong.{Splits, splits, again_not, no_label, no_named, no_registered, no_string_there}
use Rattle.coset_labels.specs.Facts.Wrong as wrong
use Rattle.coset_labels.specs.Faults.{CoseFault}
use Rattle.coset_labels.specs.Fields.{LabelFields, Named}
use Rattle.ciborium_value.specs.Kinds.{is_map, is_array}
use Rattle.coset_labels.specs.Kinds.{some_bytes}
use Rattle.coset_labels.specs.Labels.{label_of}
use Rattle.coset_labels.specs.Orders.{named_cmp}
use Rattle.coset_labels.specs.Facts.Orders.{names_same}
use Rattle.coset_headers.specs.Headers.{is_at, alg_of, entries, at}
use Rattle.coset_keys.specs.Fields.{KeyFields, reserved}
use Rattle.coset_keys.specs.Keys.{type_of, operation_of, operations_of, HasOperations, HasKeyOps, AreFields, HasKey, HaveKeys, HasKeySet}
use Rattle.coset_keys.specs.Wrong.{WrongOperations, no_list, empty_list, bad_operation, operation_again, WrongValue, wrong_kty, wrong_key_id, wrong_alg, wrong_key_ops, wrong_base_iv, WrongEntry, bad_label, label_again, bad_value, WrongKey, no_map, at_entry, no_type, WrongKeySet, no_key_list, in_key}
use Rattle.coset_keys.proofs.Firsts.{first_of}
use Rattle.coset_keys.proofs.Rising.{contains_head, contains_tail, contains_cases, contains_none}

-- ---- operations
no_operations : (before after : List Tree) (t : Tree) (all : List Named) → operation_of t ≡ None → operations_of (trees (before ++ t ∷ after)) ≡ Some all → ⊥
no_operations [] after t all e q = let w = first_of (λ n. n) (operation_of t) (operations_of (trees after)) all q in let h : None ≡ Some w.first = sym e ∙ w.is in cc
no_operations (b ∷ bs) after t all e q = let w = first_of (λ n. n) (operation_of b) (operations_of (trees (bs ++ t ∷ after))) all q in no_operations bs after t w.rest e w.others

apart : (n m : Named) (ms : List Named) → AllByRecursion (λ y. eq_by_cmp named_cmp n y ≡ false) ms → Contains ms m → n ≡ m → ⊥
apart n m [] a c e = contains_none m c
apart n m (x ∷ xs) a c e = ⊎_elim
    (λ q. let h : false ≡ true = sym a.0 ∙ (names_same n x).1 (e ∙ sym q) in cc)
    (λ d. apart n m xs a.1 d e)
    (contains_cases x xs m c)

-- the operation of an item is in the list
stands : (before after : List Tree) (t : Tree) (all : List Named) (n : Named) → operation_of t ≡ Some n → operations_of (trees (before ++ t ∷ after)) ≡ Some all → Contains all n
stands [] after t all n q f =
    let w = first_of (λ n. n) (operation_of t) (operations_of (trees after)) all f in
    let both : Some w.first ≡ Some n = sym w.is ∙ q in
    let same : w.first ≡ n = cc in
    subst (λ z. Contains z n) (sym w.whole) (subst (λ z. Contains (w.first ∷ w.rest) z) same (contains_head w.first w.rest))
stands (b ∷ bs) after t all n q f =
    let w = first_of (λ n. n) (operation_of b) (operations_of (trees (bs ++ t ∷ after))) all f in
    subst (λ z. Contains z n) (sym w.whole) (contains_tail w.first w.rest n (stands bs after t w.rest n q w.others))

-- an operation that is in front is repeated
again_apart : (before after : List Tree) (t : Tree) (ns all : List Named) (n : Named) → operations_of (trees before) ≡ Some ns → operation_of t ≡ Some n → Contains ns n
    → operations_of (trees (before ++ t ∷ after)) ≡ Some all → IsDistinct (eq_by_cmp named_cmp) all → ⊥
again_apart [] after t ns all n e q c f d = let h : Some [] ≡ Some ns = e in let s : ns ≡ [] = cc in contains_none n (subst (λ z. Contains z n) s c)
again_apart (b ∷ bs) after t ns all n e q c f d =
    let x = first_of (λ n. n) (operation_of b) (operations_of (trees bs)) ns e in
    let y = first_of (λ n. n) (operation_of b) (operations_of (trees (bs ++ t ∷ after))) all f in
    let both : Some x.first ≡ Some y.first = sym x.is ∙ y.is in
    let same : y.first ≡ x.first = cc in
    let parts = subst (IsDistinct (eq_by_cmp named_cmp)) y.whole d in
    ⊎_elim
    (λ h. apart y.first n y.rest (IsDistinct-head (eq_by_cmp named_cmp) y.first y.rest parts) (stands bs after t y.rest n q y.others) (same ∙ h))
    (λ h. again_apart bs after t x.rest y.rest n x.others q h y.others (IsDistinct-tail (eq_by_cmp named_cmp) y.first y.rest parts))
    (contains_cases x.first x.rest n (subst (λ z. Contains z n) x.whole c))

ops_not : (t : Tree) (e : CoseFault) (ns : List Named) → WrongOperations t e → HasOperations t ns → ⊥
ops_not t e ns (no_list x _) a = let h : true ≡ false = sym (ap is_array a.list) ∙ x in cc
ops_not t e ns (empty_list q _) a =
    let h : array no_trees ≡ array a.items = sym q ∙ a.list in
    let s : no_trees ≡ a.items = cc in
    let k : Some [] ≡ Some a.listed = ap operations_of s ∙ a.read in
    let z : a.listed ≡ [] = cc in
    a.nonempty z
ops_not t e ns (bad_operation before after u q w) a =
    let h : array (trees (before ++ u ∷ after)) ≡ array a.items = sym q ∙ a.list in
    let s : trees (before ++ u ∷ after) ≡ a.items = cc in
    no_operations before after u a.listed (no_registered key_operations.is_registered u e w) (ap operations_of s ∙ a.read)
ops_not t e ns (operation_again before after u ms n q r o c _) a =
    let h : array (trees (before ++ u ∷ after)) ≡ array a.items = sym q ∙ a.list in
    let s : trees (before ++ u ∷ after) ≡ a.items = cc in
    again_apart before after u ms a.listed n r o c (ap operations_of s ∙ a.read) a.rises.unrepeated

-- ---- the field at a number whose value has a fault
module _ (es all : List (LabelFields × Tree)) (l v : Tree) (s : Splits label_of l v es all) (d : Distinct all) where
  there_at : (n : ℕ) (m : LabelFields) → label_of l ≡ Some m → is_at n m ≡ true → at n all ≡ Some v
  there_at n m q t = wrong.there_at label_of es all l v s d (is_at n) m q t (label_only n m t)

  field_not : {A : Type 0} (f : Tree → Option A) (absent : A) (n : ℕ) (m : LabelFields) (x : A) → label_of l ≡ Some m → is_at n m ≡ true → IsField f absent (at n all) x → f v ≡ None → ⊥
  field_not f absent n m x q t = wrong.field_not label_of es all l v s d f absent (is_at n) m x q t (label_only n m t)

  value_not : (m : LabelFields) (e : CoseFault) (k : KeyFields) → label_of l ≡ Some m → WrongValue v m e → AreFields all k → ⊥
  value_not m e k q (wrong_kty i w) a = field_not type_of reserved 1 m k.kty q (ap (is_at 1) i) a.kty (no_registered key_types.is_registered v e w)
  value_not m e k q (wrong_key_id i w) a = field_not some_bytes [] 2 m k.key_id q (ap (is_at 2) i) a.key_id (no_string_there v e w)
  value_not m e k q (wrong_alg i w) a = field_not alg_of None 3 m k.alg q (ap (is_at 3) i) a.alg (ap (option_map Some) (no_named is_algorithm is_private_use v e w))
  value_not m e k q (wrong_key_ops i w) a = ops_not v e k.key_ops w (subst (λ o. HasKeyOps o k.key_ops) (there_at 4 m q (ap (is_at 4) i)) a.key_ops)
  value_not m e k q (wrong_base_iv i w) a = field_not some_bytes [] 5 m k.base_iv q (ap (is_at 5) i) a.base_iv (no_string_there v e w)

entry_not : (es : List (LabelFields × Tree)) (l v : Tree) (e : CoseFault) → WrongEntry es l v e → (all : List (LabelFields × Tree)) (k : KeyFields) → Splits label_of l v es all → Distinct all → AreFields all k → ⊥
entry_not es l v e (bad_label w) all k s d a = let x : Some s.key ≡ None = sym s.is ∙ no_label l e w in cc
entry_not es l v e (label_again m q i _) all k s d a = again_not label_of es all l v s d m q i
entry_not es l v e (bad_value m q _ w) all k s d a = value_not es all l v s d m e k q w a

untyped_not : (o : Option Tree) (n : Named) → IsField type_of reserved o reserved → IsField type_of reserved o n → n ≢ reserved → ⊥
untyped_not None n a b d = d b
untyped_not (Some t) n a b d = let h : Some n ≡ Some reserved = sym b ∙ a in let s : n ≡ reserved = cc in d s

pub key_not : (t : Tree) (e : CoseFault) (k : KeyFields) → WrongKey t e → HasKey t k → ⊥
key_not t e k (no_map x _) a = let h : true ≡ false = sym (ap is_map a.map) ∙ x in cc
key_not t e k (at_entry ps q w) a =
    let h : map_tree ps ≡ map_tree a.pairs = sym q ∙ a.map in
    let s : ps ≡ a.pairs = cc in
    entry_not w.es w.key w.value e w.wrong a.es k (splits label_of w.before w.after w.key w.value w.es a.es w.read_before (ap entries (sym w.are ∙ s) ∙ a.labels)) a.distinct a.fields
key_not t e k (no_type ps es q r f _) a =
    let h : map_tree ps ≡ map_tree a.pairs = sym q ∙ a.map in
    let s : ps ≡ a.pairs = cc in
    let x : Some es ≡ Some a.es = sym r ∙ ap entries s ∙ a.labels in
    let y : es ≡ a.es = cc in
    untyped_not (at 1 a.es) k.kty (subst (λ z. IsField type_of reserved (at 1 z) reserved) y f) a.fields.kty a.typed

keys_not : (before after : List Tree) (t : Tree) (e : CoseFault) (ks : List KeyFields) → WrongKey t e → HaveKeys (trees (before ++ t ∷ after)) ks → ⊥
keys_not [] after t e [] w a = let h : one_more t (trees after) ≡ no_trees = a in cc
keys_not [] after t e (k ∷ ks) w a =
    let h : one_more t (trees after) ≡ one_more a.0 a.1 = a.2 in
    let s : a.0 ≡ t = cc in
    key_not t e k w (subst (λ z. HasKey z k) s a.3)
keys_not (b ∷ bs) after t e [] w a = let h : one_more b (trees (bs ++ t ∷ after)) ≡ no_trees = a in cc
keys_not (b ∷ bs) after t e (k ∷ ks) w a =
    let h : one_more b (trees (bs ++ t ∷ after)) ≡ one_more a.0 a.1 = a.2 in
    let s : a.1 ≡ trees (bs ++ t ∷ after) = cc in
    keys_not bs after t e ks w (subst (λ z. HaveKeys z ks) s a.4)

pub set_not : (t : Tree) (e : CoseFault) (ks : List KeyFields) → WrongKeySet t e → HasKeySet t ks → ⊥
set_not t e ks (no_key_list x _) a = let h : true ≡ false = sym (ap is_array a.1) ∙ x in cc
set_not t e ks (in_key ts q w) a =
    let h : array ts ≡ array a.0 = sym q ∙ a.1 in
    let s : ts ≡ a.0 = cc in
    keys_not w.before w.after w.tree e ks w.wrong (subst (λ z. HaveKeys z ks) (sym s ∙ w.are) a.2)
