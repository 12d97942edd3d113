-- The entries that a header is written as: where each value is, and that no label is repeated.
use Rattle.std.proofs.Common.{◌≡◌, ℕ, ℤ, suc, pos, ◌+◌, ◌<◌, ◌≤◌, ◌⊎◌, inl, inr, List, [], ◌∷◌, ◌++◌, length, map, Bool, true, false, cond, nat_eq, Option, Some, None, option_map, option_and_then, refl, sym, ap, subst, ◌∙◌, arith}
use borrow.Author.Tests.{eqb-true}
use Rattle.ciborium_value.specs.Tree.{Tree, integer, text, Pairs, no_pairs, pair_more}
use Rattle.ciborium_value.specs.View.{pairs}
use Rattle.coset_labels.specs.Fields.{LabelFields, number, words}
use Rattle.coset_labels.specs.Labels.{is_i64, label_of, label_tree}
use Rattle.coset_headers.specs.Fields.{Plain}
use Rattle.coset_headers.specs.Headers.{is_at, is_core, entries, at, IsIn, Distinct, others, IsPlain}
use Rattle.coset_headers.specs.Written.{written_entries, entry_tree}
use Rattle.coset_headers.specs.Values.{values_of, entries_from}
use Rattle.coset_headers.proofs.Entered.{bool_cases, cond_none, less, unlike, alike, core_at, not_at, values_at, values_read, kept_plain}

-- ---- labels that are read are written as what they were
label_if : (i : ℤ) (b : Bool) (l : LabelFields) → is_i64 i ≡ b → cond b (Some (number i)) None ≡ Some l → label_of (label_tree l) ≡ Some l
label_if i true l q e =
    let h : number i ≡ l = (let k : Some (number i) ≡ Some l = e in cc) in
    subst (λ z. label_of (label_tree z) ≡ Some z) h (ap (λ b. cond b (Some (number i)) None) q)
label_if i false l q e = let h : None ≡ Some l = e in cc

label_again : (t : Tree) (l : LabelFields) → label_of t ≡ Some l → label_of (label_tree l) ≡ Some l
label_again (integer i) l e = label_if i (is_i64 i) l refl e
label_again (text b) l e = let h : words b ≡ l = (let k : Some (words b) ≡ Some l = e in cc) in subst (λ z. label_of (label_tree z) ≡ Some z) h refl
label_again t l e = let h : None ≡ Some l = e in cc

-- each label is one that can be read
abbrev pub AllLabels : List (LabelFields × Tree) → Type 0
AllLabels [] = Unit {0}
AllLabels (e ∷ es) = (label_of (label_tree e.0) ≡ Some e.0) × AllLabels es

one_label : (l v : Tree) (m : Option LabelFields) (o : Option (List (LabelFields × Tree))) (es : List (LabelFields × Tree)) → ((fs : List (LabelFields × Tree)) → o ≡ Some fs → AllLabels fs) → label_of l ≡ m
    → option_and_then (λ m. option_map (λ es. (m, v) ∷ es) o) m ≡ Some es → AllLabels es
one_label l v (Some m) (Some fs) es k a e =
    let h : (m, v) ∷ fs ≡ es = (let g : Some ((m, v) ∷ fs) ≡ Some es = e in cc) in
    subst AllLabels h (label_again l m a, k fs refl)
one_label l v m o es k a e = let h : None ≡ Some es = e in absurd (let f : ⊥ = cc in f)

pub read_labels : (ps : Pairs) (es : List (LabelFields × Tree)) → entries ps ≡ Some es → AllLabels es
read_labels no_pairs es e = let h : [] ≡ es = (let k : Some [] ≡ Some es = e in cc) in subst AllLabels h tt
read_labels (pair_more l v ps) es e = one_label l v (label_of l) (entries ps) es (λ fs h. read_labels ps fs h) refl e

kept_labels : (b : Bool) (e : LabelFields × Tree) (zs : List (LabelFields × Tree)) → label_of (label_tree e.0) ≡ Some e.0 → AllLabels zs → AllLabels (cond b zs (e ∷ zs))
kept_labels true e zs h g = g
kept_labels false e zs h g = (h, g)

pub other_labels : (es : List (LabelFields × Tree)) → AllLabels es → AllLabels (others es)
other_labels [] g = tt
other_labels (e ∷ es) g = kept_labels (is_core e.0) e (others es) g.0 (other_labels es g.1)

pub entries_again : (es : List (LabelFields × Tree)) → AllLabels es → entries (pairs (map entry_tree es)) ≡ Some es
entries_again [] g = refl
entries_again (e ∷ es) g =
    ap (option_and_then (λ m. option_map (λ xs. (m, e.1) ∷ xs) (entries (pairs (map entry_tree es))))) g.0 ∙ ap (option_map (λ xs. e ∷ xs)) (entries_again es g.1)

-- ---- entries without a field of their own
abbrev pub NoneCore : List (LabelFields × Tree) → Type 0
NoneCore [] = Unit {0}
NoneCore (e ∷ es) = (is_core e.0 ≡ false) × NoneCore es

none_kept : (b : Bool) (e : LabelFields × Tree) (zs : List (LabelFields × Tree)) → is_core e.0 ≡ b → NoneCore zs → NoneCore (cond b zs (e ∷ zs))
none_kept true e zs q g = g
none_kept false e zs q g = (q, g)

pub others_none : (es : List (LabelFields × Tree)) → NoneCore (others es)
others_none [] = tt
others_none (e ∷ es) = none_kept (is_core e.0) e (others es) refl (others_none es)

pub others_all : (es : List (LabelFields × Tree)) → NoneCore es → others es ≡ es
others_all [] g = refl
others_all (e ∷ es) g = ap (λ b. cond b (others es) (e ∷ others es)) g.0 ∙ ap (λ z. e ∷ z) (others_all es g.1)

at_other : (n : ℕ) (es : List (LabelFields × Tree)) → 0 < n → n < 8 → NoneCore es → at n es ≡ None
at_other n [] a b g = refl
at_other n (e ∷ es) a b g = ap (λ c. cond c (Some e.1) (at n es)) (not_at n e.0 a b g.0 (bool_cases (is_at n e.0))) ∙ at_other n es a b g.1

-- ---- values whose labels count up
-- the value at the label i, if those of os count up from n
abbrev pub value_at : ℕ → ℕ → List (Option Tree) → Option Tree
value_at i n [] = None
value_at i n (o ∷ os) = cond (nat_eq i n) o (value_at i (suc n) os)

value_before : (i n : ℕ) (os : List (Option Tree)) → i < n → value_at i n os ≡ None
value_before i n [] h = refl
value_before i n (o ∷ os) h = ap (λ b. cond b o (value_at i (suc n) os)) (unlike i n (λ q. omega (arith, h, q))) ∙ value_before i (suc n) os (omega (arith, h))

at_from : (i n : ℕ) (os : List (Option Tree)) (es : List (LabelFields × Tree)) → at i es ≡ None → at i (entries_from n os es) ≡ value_at i n os
at_from i n [] es e = e
at_from i n (Some t ∷ os) es e = ap (λ z. cond (nat_eq i n) (Some t) z) (at_from i (suc n) os es e)
at_from i n (None ∷ os) es e = at_from i (suc n) os es e ∙ go (bool_cases (nat_eq i n))
  where
    go : (nat_eq i n ≡ true) ⊎ (nat_eq i n ≡ false) → value_at i (suc n) os ≡ cond (nat_eq i n) None (value_at i (suc n) os)
    go (inl t) = value_before i (suc n) os (let q = eqb-true i n t in omega (arith, q)) ∙ sym (ap (λ b. cond b None (value_at i (suc n) os)) t)
    go (inr f) = sym (ap (λ b. cond b None (value_at i (suc n) os)) f)

not_in : (k : ℕ) (es : List (LabelFields × Tree)) → at k es ≡ None → IsIn (number (pos k)) es → ⊥
not_in k [] a i = elim i [ ]
not_in k (e ∷ es) a (inl q) =
    let h : is_at k e.0 ≡ true = ap (is_at k) (sym q) ∙ alike k k refl in
    let c : Some e.1 ≡ None = sym (ap (λ b. cond b (Some e.1) (at k es)) h) ∙ a in
    cc
not_in k (e ∷ es) a (inr i) = not_in k es (cond_none (is_at k e.0) e.1 (at k es) None a).0 i

module _ (es : List (LabelFields × Tree)) (g : NoneCore es) where
  distinct_from : (n : ℕ) (os : List (Option Tree)) → 0 < n → n + length os ≤ 8 → Distinct es → Distinct (entries_from n os es)
  distinct_from n [] a b d = d
  distinct_from n (None ∷ os) a b d = distinct_from (suc n) os (omega arith) (omega (arith, b)) d
  distinct_from n (Some t ∷ os) a b d = (
    not_in n (entries_from (suc n) os es) (at_from n (suc n) os es (at_other n es a (omega (arith, b)) g) ∙ value_before n (suc n) os (omega arith)),
    distinct_from (suc n) os (omega arith) (omega (arith, b)) d,
  )

  others_from : (n : ℕ) (os : List (Option Tree)) → 0 < n → n + length os ≤ 8 → others (entries_from n os es) ≡ es
  others_from n [] a b = others_all es g
  others_from n (None ∷ os) a b = others_from (suc n) os (omega arith) (omega (arith, b))
  others_from n (Some t ∷ os) a b =
      let zs = entries_from (suc n) os es in
      ap (λ c. cond c (others zs) ((number (pos n), t) ∷ others zs)) (core_at n a (omega (arith, b))) ∙ others_from (suc n) os (omega arith) (omega (arith, b))

  labels_from : (n : ℕ) (os : List (Option Tree)) → n + length os ≤ 8 → AllLabels es → AllLabels (entries_from n os es)
  labels_from n [] b d = d
  labels_from n (None ∷ os) b d = labels_from (suc n) os (omega (arith, b)) d
  labels_from n (Some t ∷ os) b d =
      (ap (λ c. cond c (Some (number (pos n))) None) (less n 9223372036854775808 (omega (arith, b))), labels_from (suc n) os (omega (arith, b)) d)

-- ---- the entries of a header
module _ (p : Plain) (o : Option Tree) (g : NoneCore p.rest) where
  at_written : (n : ℕ) → 0 < n → n < 8 → at n (written_entries p o) ≡ value_at n 1 (values_of p ++ o ∷ [])
  at_written n a b = at_from n 1 (values_of p ++ o ∷ []) p.rest (at_other n p.rest a b g)

  pub wrote_at : at 7 (written_entries p o) ≡ o
  wrote_at = at_written 7 (omega arith) (omega arith)

  pub wrote_distinct : Distinct p.rest → Distinct (written_entries p o)
  wrote_distinct = distinct_from p.rest g 1 (values_of p ++ o ∷ []) (omega arith) (omega arith)

  pub wrote_labels : AllLabels p.rest → AllLabels (written_entries p o)
  wrote_labels = labels_from p.rest g 1 (values_of p ++ o ∷ []) (omega arith)

  values_wrote : values_at 6 1 (written_entries p o) ≡ values_of p
  values_wrote = λ i. at_written 1 (omega arith) (omega arith) i ∷ at_written 2 (omega arith) (omega arith) i ∷ at_written 3 (omega arith) (omega arith) i
      ∷ at_written 4 (omega arith) (omega arith) i ∷ at_written 5 (omega arith) (omega arith) i ∷ at_written 6 (omega arith) (omega arith) i ∷ []

  -- the fields are those that were read
  pub wrote_plain : (es : List (LabelFields × Tree)) → IsPlain es p → IsPlain (written_entries p o) p
  wrote_plain es w =
      kept_plain es (written_entries p o) p (values_wrote ∙ values_read es p w) (others_from p.rest g 1 (values_of p ++ o ∷ []) (omega arith) (omega arith) ∙ w.rest) w
