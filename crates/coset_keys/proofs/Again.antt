-- A key that was read is read of what it is written as, and so is one with its `params` in another
-- order.
use Rattle.std.proofs.Common.{◌≡◌, ℕ, pos, inl, inr, ⊎_elim, List, [], ◌∷◌, ◌++◌, map, Bool, true, false, cond, Option, Some, None, option_map, option_and_then, refl, sym, ap, subst, ◌∙◌}
use Rattle.std.specs.List.{Contains, IsDistinct, AllByRecursion}
use Rattle.std.specs.List.Sorted.{IsStrictlySortedBy}
use Rattle.std.specs.Ordering.{is_eq}
use Rattle.std.proofs.lemmas.Cmp.{eq_by_cmp_equiv}
use Rattle.std.proofs.lemmas.List.Sorted.{Contains-permutation, IsPermutation-sym}
use Rattle.std.proofs.lemmas.Map.Keys.{IsDistinct-from_sorted, IsDistinct-head, IsDistinct-tail, IsDistinct-cons, IsDistinct-IsPermutation}
use Rattle.ciborium_value.specs.Tree.{Tree, integer, bytes, array}
use Rattle.ciborium_value.specs.View.{trees, pairs}
use Rattle.coset_labels.specs.Entries.{is_label, IsIn, Distinct, IsField}
use Rattle.coset_labels.specs.Facts.Back.{label_back}
use Rattle.coset_labels.specs.Facts.Entries.{is_label_is}
use Rattle.coset_labels.specs.Fields.{LabelFields, number, Named}
use Rattle.coset_labels.specs.Kinds.{some_bytes}
use Rattle.coset_labels.specs.Labels.{label_of, label_tree, named_tree}
use Rattle.coset_labels.specs.Orders.{label_cmp, named_cmp}
use Rattle.coset_labels.specs.Facts.Orders.{label_total, labels_same}
use Rattle.coset_headers.specs.Headers.{is_at, alg_of, entries, at}
use Rattle.coset_headers.specs.Written.{entry_of, bytes_value, crit_value, entry_tree, tree_of}
use Rattle.coset_headers.proofs.Written.{once_only}
use Rattle.coset_keys.specs.Fields.{KeyFields, reserved}
use Rattle.coset_keys.specs.Keys.{is_own, type_of, operation_of, operations_of, HasOperations, HasKeyOps, params_of, AreFields, HasKey}
use Rattle.coset_keys.specs.Sorted.{SameButOrder}
use Rattle.coset_keys.specs.Written.{ops_entry, key_entries, key_tree}
use Rattle.coset_keys.proofs.Collected.{not_true}
use Rattle.coset_labels.specs.Table.{entries_of}
use Rattle.coset_keys.proofs.Entered.{key, fields_of, own_counts, not_own}
use Rattle.coset_labels.proofs.Table as table
use Rattle.coset_labels.proofs.Table.{counts, value_at, AreNames, ReadAgain}
use Rattle.coset_keys.proofs.Good.{IsKey}
use Rattle.coset_keys.proofs.Rising.{contains_head, contains_tail, contains_cases}

cond_off : {A : Type 0} (b : Bool) (x y : A) → b ≡ false → cond b x y ≡ y
cond_off b x y e = ap (λ z. cond z x y) e

ops_read : (ns : List Named) → ((n : Named) → Contains ns n → operation_of (named_tree n) ≡ Some n) → operations_of (trees (map named_tree ns)) ≡ Some ns
ops_read [] g = refl
ops_read (n ∷ ns) g =
    ap (option_and_then (λ m. option_map (λ ms. m ∷ ms) (operations_of (trees (map named_tree ns))))) (g n (contains_head n ns))
    ∙ ap (option_map (λ ms. n ∷ ms)) (ops_read ns (λ m c. g m (contains_tail n ns m c)))

has_ops : (n : Named) (ns : List Named) → ((m : Named) → Contains (n ∷ ns) m → operation_of (named_tree m) ≡ Some m) → IsStrictlySortedBy named_cmp (n ∷ ns) → HasOperations (array (trees (map named_tree (n ∷ ns)))) (n ∷ ns)
has_ops n ns g s = record {
  items = trees (map named_tree (n ∷ ns));
  listed = n ∷ ns;
  list = refl;
  read = ops_read (n ∷ ns) g;
  nonempty = λ e. let h : n ∷ ns ≡ [] = e in cc;
  rises = record { unrepeated = IsDistinct-from_sorted named_cmp (n ∷ ns) s; same = λ q. (λ c. c, λ c. c); ordered = s };
}

-- ---- what each field is written as says it again
bytes_good : (b : List ℕ) → IsField some_bytes [] (bytes_value b) b
bytes_good [] = refl
bytes_good (x ∷ xs) = refl

alg_good : (o : Option Named) → ((a : Named) → o ≡ Some a → alg_of (named_tree a) ≡ Some (Some a)) → IsField alg_of None (option_map named_tree o) o
alg_good None g = refl
alg_good (Some a) g = g a refl

ops_good : (ns : List Named) → ((m : Named) → Contains ns m → operation_of (named_tree m) ≡ Some m) → IsStrictlySortedBy named_cmp ns → HasKeyOps (crit_value ns) ns
ops_good [] g s = refl
ops_good (n ∷ ns) g s = has_ops n ns g s

-- ---- the entries of `params`
none_at : (n : ℕ) (es : List (LabelFields × Tree)) → ((e : LabelFields × Tree) → Contains es e → is_at n e.0 ≡ false) → at n es ≡ None
none_at n [] g = refl
none_at n (x ∷ es) g = cond_off (is_at n x.0) (Some x.1) (at n es) (g x (contains_head x es)) ∙ none_at n es (λ e c. g e (contains_tail x es e c))

all_params : (es : List (LabelFields × Tree)) → ((e : LabelFields × Tree) → Contains es e → is_own e.0 ≡ false) → es ≡ params_of es
all_params [] g = refl
all_params (x ∷ es) g = ap (λ z. x ∷ z) (all_params es (λ e c. g e (contains_tail x es e c))) ∙ sym (cond_off (is_own x.0) (params_of es) (x ∷ params_of es) (g x (contains_head x es)))

all_names : (es : List (LabelFields × Tree)) → ((e : LabelFields × Tree) → Contains es e → label_of (label_tree e.0) ≡ Some e.0) → AreNames is_label key (λ n m. refl) is_label_is label_of label_tree es
all_names [] g = tt
all_names (x ∷ es) g = (g x (contains_head x es), all_names es (λ e c. g e (contains_tail x es e c)))

-- ---- the entries that are written
ops_written : (ns : List Named) (es : List (LabelFields × Tree)) → entry_of 4 (crit_value ns) ++ es ≡ ops_entry ns ++ es
ops_written [] es = refl
ops_written (n ∷ ns) es = refl

written_is : (k : KeyFields) → entries_of key (fields_of k) k.params ≡ key_entries k
written_is k = ap (λ z. (key 1, named_tree k.kty) ∷ (entry_of 2 (bytes_value k.key_id) ++ (entry_of 3 (option_map named_tree k.alg) ++ z))) (ops_written k.key_ops (entry_of 5 (bytes_value k.base_iv) ++ k.params))

module _ (k : KeyFields) (w : IsKey k) where
  wrote : ReadAgain is_label key (λ n m. refl) is_label_is is_own label_of label_tree (fields_of k) k.params (key_entries k)
  wrote = subst (λ z. ReadAgain is_label key (λ n m. refl) is_label_is is_own label_of label_tree (fields_of k) k.params z) (written_is k)
      (table.wrote is_label key (λ n m. refl) is_label_is is_own label_of label_tree label_back (fields_of k) (refl, (refl, (refl, (refl, (refl, tt))))) (refl, (refl, (refl, (refl, (refl, tt))))) (own_counts k) k.params
      (λ n h. none_at n k.params (λ e c. not_own n e.0 (own_counts k n h) (w.params e c).other)) w.distinct (all_names k.params (λ e c. (w.params e c).label)))

  at_is : {A : Type 0} (has : Option Tree → A → Type 0) (n : ℕ) (x : A) → counts (fields_of k) n ≡ true → has (value_at (fields_of k) n) x → has (at n (key_entries k)) x
  at_is has n x c h = subst (λ z. has z x) (sym (wrote.has n c)) h

  pub writes : key_tree k ≡ Some (tree_of (key_entries k))
  writes = ap (λ b. cond b None (Some (tree_of (key_entries k)))) (once_only k.params w.distinct)

  pub reads_back : HasKey (tree_of (key_entries k)) k
  reads_back = record {
    pairs = pairs (map entry_tree (key_entries k));
    es = key_entries k;
    map = refl;
    labels = wrote.entries_are;
    distinct = wrote.distinct;
    fields = record {
      kty = at_is (IsField type_of reserved) 1 k.kty refl w.kty;
      key_id = at_is (IsField some_bytes []) 2 k.key_id refl (bytes_good k.key_id);
      alg = at_is (IsField alg_of None) 3 k.alg refl (alg_good k.alg (λ a q. ap (option_map Some) (w.alg a q)));
      key_ops = at_is HasKeyOps 4 k.key_ops refl (ops_good k.key_ops w.operations w.rising);
      base_iv = at_is (IsField some_bytes []) 5 k.base_iv refl (bytes_good k.base_iv);
      params = all_params k.params (λ e c. (w.params e c).other) ∙ sym wrote.others_are;
    };
    typed = w.typed;
  }

-- ---- `params` in another order
abbrev pub same_label : LabelFields × Tree → LabelFields × Tree → Bool
same_label a b = is_eq (label_cmp a.0 b.0)

no_other : (x : LabelFields × Tree) (es : List (LabelFields × Tree)) → (IsIn x.0 es → ⊥) → AllByRecursion (λ y. same_label x y ≡ false) es
no_other x [] n = tt
no_other x (y ∷ ys) n = (not_true (same_label x y) (λ h. n (inl ((labels_same x.0 y.0).0 h))), no_other x ys (λ i. n (inr i)))

other_not : (x : LabelFields × Tree) (es : List (LabelFields × Tree)) → AllByRecursion (λ y. same_label x y ≡ false) es → IsIn x.0 es → ⊥
other_not x [] a i = i
other_not x (y ∷ ys) a (inl q) = let h : true ≡ false = sym ((labels_same x.0 y.0).1 q) ∙ a.0 in cc
other_not x (y ∷ ys) a (inr i) = other_not x ys a.1 i

none_distinct : IsDistinct same_label []
unfolding IsDistinct
none_distinct = tt

pub to_std : (es : List (LabelFields × Tree)) → Distinct es → IsDistinct same_label es
to_std [] d = none_distinct
to_std (x ∷ es) d = IsDistinct-cons same_label x es (no_other x es d.0) (to_std es d.1)

from_std : (es : List (LabelFields × Tree)) → IsDistinct same_label es → Distinct es
from_std [] d = tt
from_std (x ∷ es) d = (other_not x es (IsDistinct-head same_label x es d), from_std es (IsDistinct-tail same_label x es d))

flips : (a b : LabelFields × Tree) → same_label a b ≡ same_label b a
flips a b = (eq_by_cmp_equiv label_total).symm a.0 b.0

pub sorted_key : (k l : KeyFields) → IsKey k → SameButOrder k l → IsKey l
sorted_key k l w s = subst IsKey (sym s.others) (record {
  kty = w.kty;
  typed = w.typed;
  alg = w.alg;
  operations = w.operations;
  rising = w.rising;
  params = λ e c. w.params e (Contains-permutation l.params k.params e (IsPermutation-sym k.params l.params s.pairs) c);
  distinct = from_std l.params (IsDistinct-IsPermutation same_label flips k.params l.params s.pairs (to_std k.params w.distinct));
})
