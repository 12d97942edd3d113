-- Keys whose entries are in one order have equal bytes exactly when they differ at most in the
-- order of `params`.
use Rattle.std.proofs.Common.{◌≡◌, ◌+◌, ◌<◌, List, [], ◌∷◌, length, get_or, map, true, false, Some, option_map, refl, sym, ap, subst, ◌∙◌, arith}
use Rattle.std.specs.Prelude.{◌↔◌}
use Rattle.std.specs.List.Sorted.{IsPermutation, IsSorted, IsStrictlySortedBy}
use Rattle.std.specs.Cmp.{IsTotalOrder}
use Rattle.std.specs.Ordering.{is_lt, ordering_reverse}
use Rattle.std.specs.declared.cmp.Ordering.{Ordering}
use Rattle.std.specs.declared.cmp.Ordering.TheVariants.{Less, Equal, Greater}
use Rattle.std.proofs.lemmas.Cmp.{on_total, tied_itself}
use Rattle.std.proofs.lemmas.List.Elements.{Contains-get_or}
use Rattle.std.proofs.lemmas.List.Sorted.{Contains-permutation, IsPermutation-sym, IsPermutation-trans}
use Rattle.std.proofs.lemmas.Map.Keys.{apart_from_distinct, sorted_from_all_adjacent}
use Rattle.std.proofs.lemmas.Map.Lookups.{exact_bytes}
use Rattle.ciborium_value.specs.Tree.{Tree}
use Rattle.ciborium_value.specs.Encoding.{enc, Fits, FitPairs}
use Rattle.ciborium_value.specs.View.{pairs}
use Rattle.ciborium_value.specs.Facts.Orders.{then_tied}
use Rattle.ciborium_value.specs.Canonical.{bytewise, text_cmp}
use Rattle.ciborium_value.proofs.OneEncoding.{enc_once}
use Rattle.coset_labels.specs.Entries.{Distinct}
use Rattle.coset_labels.specs.Fields.{LabelFields}
use Rattle.coset_labels.specs.Labels.{label_tree}
use Rattle.coset_labels.specs.Orders.{label_cmp}
use Rattle.coset_labels.specs.Facts.Orders.{label_total, label_tied, labels_same}
use Rattle.coset_labels.specs.declared.order.CborOrdering.{CborOrdering}
use Rattle.coset_labels.specs.declared.order.CborOrdering.TheVariants as ordering
use Rattle.coset_headers.specs.Written.{entry_tree, tree_of}
use Rattle.coset_keys.specs.Fields.{KeyFields}
use Rattle.coset_keys.specs.Keys.{HasKey}
use Rattle.coset_keys.specs.Sorted.{encoded_cmp, entry_cmp, Sorts, Canonicalized, SameButOrder}
use Rattle.coset_keys.specs.Written.{key_entries, key_tree}
use Rattle.coset_keys.proofs.Again.{same_label, to_std, sorted_key, writes, reads_back}
use Rattle.coset_keys.proofs.Fitting.{label_at}
use Rattle.coset_keys.proofs.Good.{is_key}
use Rattle.coset_keys.proofs.Ordered.{encoded_total}
use Rattle.coset_keys.proofs.Rising.{rising_once}
use Rattle.coset_keys.proofs.Unique.{fields_same, key_once}

abbrev label_by : Tree → LabelFields → Ordering
label_by t m = text_cmp t (label_tree m)

bytes_tie : (l m : LabelFields) → bytewise (label_tree l) (label_tree m) ≡ Equal → Fits (label_tree l) → Fits (label_tree m) → label_cmp l m ≡ Equal
bytes_tie l m e f g =
    let s : label_tree l ≡ label_tree m = enc_once (label_tree l) (label_tree m) f g (exact_bytes (enc (label_tree l)) (enc (label_tree m)) e) in
    ap (λ z. label_by z m) s ∙ tied_itself label_total m

one_label : (o : CborOrdering) (l m : LabelFields) → encoded_cmp o l m ≡ Equal → Fits (label_tree l) → Fits (label_tree m) → label_cmp l m ≡ Equal
one_label ordering.Lexicographic l m e f g = bytes_tie l m e f g
one_label ordering.LengthFirstLexicographic l m e f g = bytes_tie l m (then_tied _ (bytewise (label_tree l) (label_tree m)) e).1 f g

less_of : (r : Ordering) → is_lt (ordering_reverse r) ≡ false → (r ≡ Equal → ⊥) → r ≡ Less
less_of Less e n = refl
less_of Equal e n = absurd (n refl)
less_of Greater e n = let h : true ≡ false = e in cc

entry_total : (o : CborOrdering) → IsTotalOrder (entry_cmp o)
entry_total o = on_total (λ (e : LabelFields × Tree). e.0) (encoded_total o)

none_rises : (o : CborOrdering) → IsStrictlySortedBy (entry_cmp o) []
unfolding IsStrictlySortedBy
none_rises o = tt

rises : (o : CborOrdering) (es : List (LabelFields × Tree)) → IsSorted (entry_cmp o) es → Distinct es → FitPairs (pairs (map entry_tree es)) → IsStrictlySortedBy (entry_cmp o) es
rises o [] s d f = none_rises o
rises o (x ∷ xs) s d f = sorted_from_all_adjacent (entry_total o) (x ∷ xs) x (λ k l.
    let i : k < length (x ∷ xs) = omega (arith, l) in
    let a = get_or (x ∷ xs) k x in
    let b = get_or (x ∷ xs) (k + 1) x in
    let turned : is_lt (ordering_reverse (entry_cmp o a b)) ≡ false = ap is_lt (sym ((entry_total o).antisymm b a)) ∙ s k x (omega arith) l in
    less_of (entry_cmp o a b) turned (λ e.
    let t : label_cmp a.0 b.0 ≡ Equal = one_label o a.0 b.0 e (label_at (x ∷ xs) a f (Contains-get_or (x ∷ xs) k x i)) (label_at (x ∷ xs) b f (Contains-get_or (x ∷ xs) (k + 1) x l)) in
    let u : same_label a b ≡ true = (labels_same a.0 b.0).1 (label_tied a.0 b.0 t) in
    let v : same_label a b ≡ false = apart_from_distinct same_label (x ∷ xs) k (k + 1) x (to_std (x ∷ xs) d) (omega arith) l in
    let w : true ≡ false = sym u ∙ v in cc))

pub one_order : (o : CborOrdering) (xs ys ps qs : List (LabelFields × Tree)) → IsPermutation xs ys → Sorts o xs ps → Sorts o ys qs → Distinct ps → Distinct qs → FitPairs (pairs (map entry_tree ps)) → FitPairs (pairs (map entry_tree qs)) → ps ≡ qs
one_order o xs ys ps qs p a b d e f g =
    rising_once (entry_cmp o) (entry_total o) ps qs (rises o ps a.sorted d f) (rises o qs b.sorted e g) (λ z. (
      λ c. Contains-permutation ys qs z b.pairs (Contains-permutation xs ys z p (Contains-permutation ps xs z (IsPermutation-sym xs ps a.pairs) c)),
      λ c. Contains-permutation xs ps z a.pairs (Contains-permutation ys xs z (IsPermutation-sym xs ys p) (Contains-permutation qs ys z (IsPermutation-sym ys qs b.pairs) c)),
    ))

-- ---- two keys
sorted_so : (o : CborOrdering) (k a : KeyFields) → Canonicalized o k a → SameButOrder k a
sorted_so o k a c = record { others = c.others; pairs = c.params.pairs }

alike : (o : CborOrdering) (k l a b : KeyFields) → Canonicalized o k a → Canonicalized o l b → a ≡ b → SameButOrder k l
alike o k l a b c d e = let w : record l { params = b.params } ≡ record k { params = a.params } = sym d.others ∙ sym e ∙ c.others in record {
  others = fields_same l (record k { params = l.params })
      (ap (λ z. z.kty) w) (ap (λ z. z.key_id) w) (ap (λ z. z.alg) w) (ap (λ z. z.key_ops) w) (ap (λ z. z.base_iv) w) refl;
  pairs = IsPermutation-trans k.params a.params l.params c.params.pairs (subst (λ z. IsPermutation z l.params) (sym (ap (λ z. z.params) e)) (IsPermutation-sym l.params b.params d.params.pairs));
}

same_fields : (k l a b : KeyFields) → a ≡ record k { params = a.params } → b ≡ record l { params = b.params } → l ≡ record k { params = l.params } → a.params ≡ b.params → a ≡ b
same_fields k l a b p q r e = fields_same a b
    (ap (λ z. z.kty) (p) ∙ sym (ap (λ z. z.kty) r) ∙ sym (ap (λ z. z.kty) q)) (ap (λ z. z.key_id) p ∙ sym (ap (λ z. z.key_id) r) ∙ sym (ap (λ z. z.key_id) q))
    (ap (λ z. z.alg) p ∙ sym (ap (λ z. z.alg) r) ∙ sym (ap (λ z. z.alg) q)) (ap (λ z. z.key_ops) p ∙ sym (ap (λ z. z.key_ops) r) ∙ sym (ap (λ z. z.key_ops) q))
    (ap (λ z. z.base_iv) p ∙ sym (ap (λ z. z.base_iv) r) ∙ sym (ap (λ z. z.base_iv) q)) e

pub one_spelling : (o : CborOrdering) (t s : Tree) (k l a b : KeyFields) → ((u : Tree) → key_tree a ≡ Some u → Fits u) → ((u : Tree) → key_tree b ≡ Some u → Fits u) → FitPairs (pairs (map entry_tree a.params)) → FitPairs (pairs (map entry_tree b.params))
    → HasKey t k → HasKey s l → Canonicalized o k a → Canonicalized o l b → (option_map enc (key_tree a) ≡ option_map enc (key_tree b)) ↔ SameButOrder k l
one_spelling o t s k l a b f g m n p q c d =
    let x = sorted_key k a (is_key t k p) (sorted_so o k a c) in
    let y = sorted_key l b (is_key s l q) (sorted_so o l b d) in
    let u = tree_of (key_entries a) in
    let v = tree_of (key_entries b) in (
      λ e.
          let h : Some (enc u) ≡ Some (enc v) = sym (ap (option_map enc) (writes a x)) ∙ e ∙ ap (option_map enc) (writes b y) in
          let i : enc u ≡ enc v = cc in
          let j : u ≡ v = enc_once u v (f u (writes a x)) (g v (writes b y)) i in
          alike o k l a b c d (key_once v a b (subst (λ z. HasKey z a) j (reads_back a x)) (reads_back b y)),
      λ r.
          let j : a.params ≡ b.params = one_order o k.params l.params a.params b.params r.pairs c.params d.params x.distinct y.distinct m n in
          ap (λ z. option_map enc (key_tree z)) (same_fields k l a b c.others d.others r.others j),
    )
