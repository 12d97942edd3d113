-- One value has at most one key.
use Rattle.std.proofs.Common.{◌≡◌, List, [], ◌∷◌, Option, Some, None, refl, sym, ap, subst, ◌∙◌}
use Rattle.std.specs.List.{Contains}
use Rattle.ciborium_value.specs.Tree.{Tree, array, map as map_tree, Trees, no_trees, one_more}
use Rattle.coset_labels.specs.Facts.Entries.{field_once}
use Rattle.coset_labels.specs.Fields.{LabelFields, Named}
use Rattle.coset_labels.specs.Orders.{named_cmp}
use Rattle.coset_labels.specs.Facts.Orders.{named_total}
use Rattle.coset_headers.specs.Headers.{entries, at}
use Rattle.coset_keys.specs.Fields.{KeyFields}
use Rattle.coset_keys.specs.Keys.{operations_of, HasOperations, HasKeyOps, AreFields, HasKey, HaveKeys, HasKeySet}
use Rattle.coset_keys.proofs.Rising.{rising_once}

ops_once : (t : Tree) (ns ms : List Named) → HasOperations t ns → HasOperations t ms → ns ≡ ms
ops_once t ns ms a b =
    let whole : array a.items ≡ array b.items = sym a.list ∙ b.list in
    let items : a.items ≡ b.items = cc in
    let some : Some a.listed ≡ Some b.listed = sym a.read ∙ ap operations_of items ∙ b.read in
    let listed : a.listed ≡ b.listed = cc in
    rising_once named_cmp named_total ns ms a.rises.ordered b.rises.ordered (λ q. (
      λ c. (b.rises.same q).0 (subst (λ z. Contains z q) listed ((a.rises.same q).1 c)),
      λ c. (a.rises.same q).0 (subst (λ z. Contains z q) (sym listed) ((b.rises.same q).1 c)),
    ))

key_ops_once : (o : Option Tree) (ns ms : List Named) → HasKeyOps o ns → HasKeyOps o ms → ns ≡ ms
key_ops_once None ns ms a b = a ∙ sym b
key_ops_once (Some t) ns ms a b = ops_once t ns ms a b

pub fields_same : (k l : KeyFields) → k.kty ≡ l.kty → k.key_id ≡ l.key_id → k.alg ≡ l.alg → k.key_ops ≡ l.key_ops → k.base_iv ≡ l.base_iv → k.params ≡ l.params → k ≡ l
fields_same k l a b c d e f = λ i. record { kty = a i; key_id = b i; alg = c i; key_ops = d i; base_iv = e i; params = f i }

fields_once : (es : List (LabelFields × Tree)) (k l : KeyFields) → AreFields es k → AreFields es l → k ≡ l
fields_once es k l a b = fields_same k l
    (field_once _ _ _ _ _ a.kty b.kty)
    (field_once _ _ _ _ _ a.key_id b.key_id)
    (field_once _ _ _ _ _ a.alg b.alg)
    (key_ops_once (at 4 es) k.key_ops l.key_ops a.key_ops b.key_ops)
    (field_once _ _ _ _ _ a.base_iv b.base_iv)
    (a.params ∙ sym b.params)

pub key_once : (t : Tree) (k l : KeyFields) → HasKey t k → HasKey t l → k ≡ l
key_once t k l a b =
    let maps : map_tree a.pairs ≡ map_tree b.pairs = sym a.map ∙ b.map in
    let pairs : a.pairs ≡ b.pairs = cc in
    let some : Some a.es ≡ Some b.es = sym a.labels ∙ ap entries pairs ∙ b.labels in
    let same : b.es ≡ a.es = cc in
    fields_once a.es k l a.fields (subst (λ z. AreFields z l) same b.fields)

keys_once : (ts : Trees) (ks ls : List KeyFields) → HaveKeys ts ks → HaveKeys ts ls → ks ≡ ls
keys_once ts [] [] a b = refl
keys_once ts [] (l ∷ ls) a b = let e : no_trees ≡ one_more b.0 b.1 = sym a ∙ b.2 in cc
keys_once ts (k ∷ ks) [] a b = let e : no_trees ≡ one_more a.0 a.1 = sym b ∙ a.2 in cc
keys_once ts (k ∷ ks) (l ∷ ls) a b =
    let e : one_more a.0 a.1 ≡ one_more b.0 b.1 = sym a.2 ∙ b.2 in
    let e0 : b.0 ≡ a.0 = cc in
    let e1 : b.1 ≡ a.1 = cc in
    let first = key_once a.0 k l a.3 (subst (λ z. HasKey z l) e0 b.3) in
    let rest = keys_once a.1 ks ls a.4 (subst (λ z. HaveKeys z ls) e1 b.4) in
    λ i. first i ∷ rest i

pub set_once : (t : Tree) (ks ls : List KeyFields) → HasKeySet t ks → HasKeySet t ls → ks ≡ ls
set_once t ks ls a b =
    let e : array a.0 ≡ array b.0 = sym a.1 ∙ b.1 in
    let s : b.0 ≡ a.0 = cc in
    keys_once a.0 ks ls a.2 (subst (λ z. HaveKeys z ls) s b.2)
