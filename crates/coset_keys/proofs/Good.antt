-- The fields of a key that was read.
use Rattle.std.proofs.Common.{◌≡◌, ◌≢◌, ⊎_elim, List, [], ◌∷◌, Bool, true, false, cond, Option, Some, None, option_map, refl, sym, ap, subst, ◌∙◌}
use Rattle.std.specs.List.{Contains}
use Rattle.std.specs.List.Sorted.{IsStrictlySortedBy}
use Rattle.cose_iana.specs.Algorithms.{is_algorithm}
use Rattle.cose_iana.specs.Keys.{key_types, key_operations}
use Rattle.cose_iana.specs.Registry.{is_private_use}
use Rattle.ciborium_value.specs.Tree.{Tree, Trees, no_trees, one_more, Pairs, no_pairs, pair_more}
use Rattle.coset_labels.specs.Entries.{Distinct, IsField}
use Rattle.coset_labels.specs.Facts.Back.{label_back, registered_back, named_back}
use Rattle.coset_labels.specs.Facts.Entries.{distinct_others}
use Rattle.coset_labels.specs.Fields.{LabelFields, Named}
use Rattle.coset_labels.specs.Labels.{label_of, label_tree, named_of, named_tree}
use Rattle.coset_labels.specs.Orders.{named_cmp}
use Rattle.coset_headers.specs.Headers.{alg_of, entries, at}
use Rattle.coset_keys.specs.Fields.{KeyFields, reserved}
use Rattle.coset_keys.specs.Keys.{is_own, type_of, operation_of, operations_of, HasKeyOps, params_of, HasKey}
use Rattle.coset_keys.proofs.Collected.{none_rises}
use Rattle.coset_keys.proofs.Firsts.{first_of}
use Rattle.coset_keys.proofs.Rising.{contains_head, contains_tail, contains_cases, contains_none}

-- ---- what the fields of a key that was read are
pub record GoodEntry (e : LabelFields × Tree) : Type 0 where
  pub label : label_of (label_tree e.0) ≡ Some e.0
  pub other : is_own e.0 ≡ false

pub record IsKey (k : KeyFields) : Type 0 where
  pub kty : type_of (named_tree k.kty) ≡ Some k.kty
  pub typed : k.kty ≢ reserved
  pub alg : (a : Named) → k.alg ≡ Some a → named_of is_algorithm is_private_use (named_tree a) ≡ Some a
  pub operations : (n : Named) → Contains k.key_ops n → operation_of (named_tree n) ≡ Some n
  pub rising : IsStrictlySortedBy named_cmp k.key_ops
  pub params : (e : LabelFields × Tree) → Contains k.params e → GoodEntry e
  pub distinct : Distinct k.params

type_good : (o : Option Tree) (n : Named) → IsField type_of reserved o n → n ≢ reserved → type_of (named_tree n) ≡ Some n
type_good None n f d = absurd (d f)
type_good (Some t) n f d = ap type_of (registered_back key_types.is_registered t n f) ∙ f

alg_some : (o : Option Named) (a : Named) → option_map Some o ≡ Some (Some a) → o ≡ Some a
alg_some None a e = let h : None ≡ Some (Some a) = e in cc
alg_some (Some n) a e = let h : Some (Some n) ≡ Some (Some a) = e in cc

alg_good : (o : Option Tree) (x : Option Named) → IsField alg_of None o x → (a : Named) → x ≡ Some a → named_of is_algorithm is_private_use (named_tree a) ≡ Some a
alg_good None x f a e = let h : None ≡ Some a = sym f ∙ e in cc
alg_good (Some t) x f a e =
    let is : named_of is_algorithm is_private_use t ≡ Some a = alg_some (named_of is_algorithm is_private_use t) a (f ∙ ap Some e) in
    ap (named_of is_algorithm is_private_use) (named_back is_algorithm is_private_use t a is) ∙ is

listed_good : (ts : Trees) (ms : List Named) → operations_of ts ≡ Some ms → (n : Named) → Contains ms n → operation_of (named_tree n) ≡ Some n
listed_good no_trees ms e n c = let h : Some [] ≡ Some ms = e in let s : ms ≡ [] = cc in absurd (contains_none n (subst (λ z. Contains z n) s c))
listed_good (one_more t ts) ms e n c =
    let w = first_of (λ n. n) (operation_of t) (operations_of ts) ms e in
    ⊎_elim
    (λ q. let is : operation_of t ≡ Some n = w.is ∙ ap Some q in ap operation_of (registered_back key_operations.is_registered t n is) ∙ is)
    (λ d. listed_good ts w.rest w.others n d)
    (contains_cases w.first w.rest n (subst (λ z. Contains z n) w.whole c))

ops_good : (o : Option Tree) (ns : List Named) → HasKeyOps o ns → (n : Named) → Contains ns n → operation_of (named_tree n) ≡ Some n
ops_good None ns a n c = absurd (contains_none n (subst (λ z. Contains z n) a c))
ops_good (Some t) ns a n c = listed_good a.items a.listed a.read n ((a.rises.same n).1 c)

ops_rise : (o : Option Tree) (ns : List Named) → HasKeyOps o ns → IsStrictlySortedBy named_cmp ns
ops_rise None ns a = subst (IsStrictlySortedBy named_cmp) (sym a) none_rises
ops_rise (Some t) ns a = a.rises.ordered

-- the entries of a map have labels
labels_good : (ps : Pairs) (es : List (LabelFields × Tree)) → entries ps ≡ Some es → (e : LabelFields × Tree) → Contains es e → label_of (label_tree e.0) ≡ Some e.0
labels_good no_pairs es q e c = let h : Some [] ≡ Some es = q in let s : es ≡ [] = cc in absurd (contains_none e (subst (λ z. Contains z e) s c))
labels_good (pair_more l v ps) es q e c =
    let w = first_of (λ m. (m, v)) (label_of l) (entries ps) es q in
    ⊎_elim
    (λ r. let is : label_of l ≡ Some e.0 = w.is ∙ ap (λ z. Some z.0) r in ap label_of (label_back l e.0 is) ∙ is)
    (λ d. labels_good ps w.rest w.others e d)
    (contains_cases (w.first, v) w.rest e (subst (λ z. Contains z e) w.whole c))

kept_by : (b : Bool) (x : LabelFields × Tree) (es zs : List (LabelFields × Tree)) (e : LabelFields × Tree) → is_own x.0 ≡ b → (Contains zs e → Contains es e × (is_own e.0 ≡ false)) → Contains (cond b zs (x ∷ zs)) e → Contains (x ∷ es) e × (is_own e.0 ≡ false)
kept_by true x es zs e o f c = let r = f c in (contains_tail x es e r.0, r.1)
kept_by false x es zs e o f c = ⊎_elim
    (λ q. (subst (λ z. Contains (x ∷ es) z) q (contains_head x es), subst (λ z. is_own z.0 ≡ false) q o))
    (λ d. let r = f d in (contains_tail x es e r.0, r.1))
    (contains_cases x zs e c)

in_params : (es : List (LabelFields × Tree)) (e : LabelFields × Tree) → Contains (params_of es) e → Contains es e × (is_own e.0 ≡ false)
in_params [] e c = absurd (contains_none e c)
in_params (x ∷ es) e c = kept_by (is_own x.0) x es (params_of es) e refl (in_params es e) c

pub is_key : (t : Tree) (k : KeyFields) → HasKey t k → IsKey k
is_key t k a = record {
  kty = type_good (at 1 a.es) k.kty a.fields.kty a.typed;
  typed = a.typed;
  alg = alg_good (at 3 a.es) k.alg a.fields.alg;
  operations = ops_good (at 4 a.es) k.key_ops a.fields.key_ops;
  rising = ops_rise (at 4 a.es) k.key_ops a.fields.key_ops;
  params = λ e c. let r = in_params a.es e (subst (λ z. Contains z e) a.fields.params c) in record { label = labels_good a.pairs a.es a.labels e r.0; other = r.1 };
  distinct = subst Distinct (sym a.fields.params) (distinct_others is_own a.es a.distinct);
}
