-- Keys whose parts fit.
use Rattle.std.proofs.Common.{◌≡◌, ℕ, ◌+◌, ◌<◌, ◌≤◌, ◌^◌, List, [], ◌∷◌, ◌++◌, map, length, take, get_or, Bool, true, false, cond, Option, Some, None, option_map, ⊎_elim, sym, ap, subst, ◌∙◌, arith, refl}
use Rattle.std.specs.List.{Contains}
use Rattle.std.proofs.lemmas.List.{take_more, map-append}
use Rattle.ciborium_value.specs.Tree.{Tree, bytes, array, tree_count, pair_count}
use Rattle.ciborium_value.specs.Encoding.{Fits, FitAll, FitPairs}
use Rattle.ciborium_value.specs.View.{trees, pairs, view}
use Rattle.ciborium_value.specs.declared.value.Value.{Value}
use Rattle.coset_labels.specs.Arrays.{all_written}
use Rattle.coset_labels.specs.Fields.{LabelFields, Named}
use Rattle.coset_labels.specs.Labels.{label_tree, named_tree}
use Rattle.coset_labels.specs.View.{label_view}
use Rattle.coset_labels.specs.declared.label.Label.{Label}
use Rattle.coset_headers.specs.View.{entry_view}
use Rattle.coset_headers.specs.Written.{name_entry, bytes_entry, entry_tree, tree_of, twice}
use Rattle.coset_keys.specs.Fields.{KeyFields}
use Rattle.coset_keys.specs.Fitting.{KeysFit, NameFits, NamesFit}
use Rattle.coset_keys.specs.View.{key_view}
use Rattle.coset_keys.specs.Written.{ops_entry, key_entries, key_tree, key_set_tree}
use Rattle.coset_keys.specs.declared.key.CoseKey.{CoseKey}
use Rattle.coset_keys.proofs.Firsts.{first_of}
use Rattle.coset_keys.proofs.Rising.{contains_cases, contains_none}

abbrev AllFit : List (LabelFields × Tree) → Type 0
AllFit es = FitPairs (pairs (map entry_tree es))

count : (es : List (LabelFields × Tree)) → pair_count (pairs (map entry_tree es)) ≡ length es
count [] = omega arith
count (e ∷ es) = let h : pair_count (pairs (map entry_tree es)) ≡ length es = count es in omega arith

one_entry : (es : List (LabelFields × Tree)) (e : LabelFields × Tree) → AllFit es → Fits (label_tree e.0) → Fits e.1 → AllFit (es ++ e ∷ [])
one_entry [] e h k v = (k, v, tt)
one_entry (x ∷ es) e h k v = (h.0, h.1, one_entry es e h.2 k v)

pub entry_fits : (ps : List (Label × Value)) (i : ℕ) (p : Label × Value) → i < length ps → p ≡ get_or ps i p
    → AllFit (map entry_view (take i ps)) → Fits (label_tree (label_view p.0)) → Fits (view p.1) → AllFit (map entry_view (take (i + 1) ps))
entry_fits ps i p l e h k v =
    subst (λ z. AllFit (map entry_view z)) (ap (λ z. take i ps ++ z ∷ []) e ∙ sym (take_more ps i p l))
    (subst AllFit (sym (map-append entry_view (take i ps) (p ∷ []))) (one_entry (map entry_view (take i ps)) (entry_view p) h k v))

-- the label of an entry fits
pub label_at : (es : List (LabelFields × Tree)) (e : LabelFields × Tree) → AllFit es → Contains es e → Fits (label_tree e.0)
label_at [] e h c = absurd (contains_none e c)
label_at (x ∷ es) e h c = ⊎_elim (λ q. subst (λ z. Fits (label_tree z.0)) q h.0) (λ d. label_at es e h.2 d) (contains_cases x es e c)

-- ---- a list of names
names_count : (ns : List Named) → tree_count (trees (map named_tree ns)) ≡ length ns
names_count [] = omega arith
names_count (n ∷ ns) = let h : tree_count (trees (map named_tree ns)) ≡ length ns = names_count ns in omega arith

names_all : (ns : List Named) → NamesFit ns → FitAll (trees (map named_tree ns))
names_all [] h = tt
names_all (n ∷ ns) h = (h.0, names_all ns h.1)

pub names_more : (ns : List Named) (n : Named) → NamesFit ns → Fits (named_tree n) → NamesFit (ns ++ n ∷ [])
names_more [] n h f = (f, tt)
names_more (x ∷ ns) n h f = (h.0, names_more ns n h.1 f)

-- ---- a field before entries that fit
name_before : (n : ℕ) (x : Option Named) (es : List (LabelFields × Tree)) → n < 2 ^ 64 → NameFits x → AllFit es → AllFit (name_entry n x ++ es)
name_before n None es q f h = h
name_before n (Some a) es q f h = (q, f, h)

bytes_before : (n : ℕ) (b : List ℕ) (es : List (LabelFields × Tree)) → n < 2 ^ 64 → Fits (bytes b) → AllFit es → AllFit (bytes_entry n b ++ es)
bytes_before n [] es q f h = h
bytes_before n (x ∷ xs) es q f h = (q, f, h)

ops_before : (ns : List Named) (es : List (LabelFields × Tree)) → NamesFit ns → length ns < 2 ^ 64 → AllFit es → AllFit (ops_entry ns ++ es)
ops_before [] es f l h = h
ops_before (n ∷ ns) es f l h =
    let m : tree_count (trees (map named_tree (n ∷ ns))) ≡ length (n ∷ ns) = names_count (n ∷ ns) in
    let k : tree_count (trees (map named_tree (n ∷ ns))) < 2 ^ 64 = subst (λ z. z < 2 ^ 64) (sym m) l in
    (omega arith, (k, names_all (n ∷ ns) f), h)

name_longer : (n : ℕ) (x : Option Named) (es : List (LabelFields × Tree)) → length (name_entry n x ++ es) ≤ length es + 1
name_longer n None es = omega arith
name_longer n (Some a) es = omega arith

bytes_longer : (n : ℕ) (b : List ℕ) (es : List (LabelFields × Tree)) → length (bytes_entry n b ++ es) ≤ length es + 1
bytes_longer n [] es = omega arith
bytes_longer n (x ∷ xs) es = omega arith

ops_longer : (ns : List Named) (es : List (LabelFields × Tree)) → length (ops_entry ns ++ es) ≤ length es + 1
ops_longer [] es = omega arith
ops_longer (n ∷ ns) es = omega arith

if_some : (b : Bool) (t u : Tree) → cond b None (Some t) ≡ Some u → t ≡ u
if_some true t u e = let h : None ≡ Some u = e in cc
if_some false t u e = let h : Some t ≡ Some u = e in cc

entries_fit : (k : KeyFields) → Fits (named_tree k.kty) → Fits (bytes k.key_id) → NameFits k.alg → NamesFit k.key_ops → length k.key_ops < 2 ^ 64 → Fits (bytes k.base_iv) → AllFit k.params → length k.params + 5 < 2 ^ 64 → Fits (tree_of (key_entries k))
entries_fit k f1 f2 f3 f4 l4 f5 h l =
    let t5 = bytes_entry 5 k.base_iv ++ k.params in
    let m5 : length t5 ≤ length k.params + 1 = bytes_longer 5 k.base_iv k.params in
    let t4 = ops_entry k.key_ops ++ t5 in
    let m4 : length t4 ≤ length t5 + 1 = ops_longer k.key_ops t5 in
    let t3 = name_entry 3 k.alg ++ t4 in
    let m3 : length t3 ≤ length t4 + 1 = name_longer 3 k.alg t4 in
    let t2 = bytes_entry 2 k.key_id ++ t3 in
    let m2 : length t2 ≤ length t3 + 1 = bytes_longer 2 k.key_id t3 in
    let m1 : length (key_entries k) ≤ length t2 + 1 = name_longer 1 (Some k.kty) t2 in
    let n : pair_count (pairs (map entry_tree (key_entries k))) ≡ length (key_entries k) = count (key_entries k) in
    let small : pair_count (pairs (map entry_tree (key_entries k))) < 2 ^ 64 = omega (arith, n, m1, m2, m3, m4, m5, l) in
    (small, name_before 1 (Some k.kty) t2 (omega arith) f1 (bytes_before 2 k.key_id t3 (omega arith) f2 (name_before 3 k.alg t4 (omega arith) f3 (ops_before k.key_ops t5 f4 l4 (bytes_before 5 k.base_iv k.params (omega arith) f5 h)))))

pub all_fit : (k : KeyFields) (t : Tree) → Fits (named_tree k.kty) → Fits (bytes k.key_id) → NameFits k.alg → NamesFit k.key_ops → length k.key_ops < 2 ^ 64 → Fits (bytes k.base_iv) → AllFit k.params → length k.params + 5 < 2 ^ 64
    → key_tree k ≡ Some t → Fits t
all_fit k t f1 f2 f3 f4 l4 f5 h l e = subst Fits (if_some (twice k.params) (tree_of (key_entries k)) t e) (entries_fit k f1 f2 f3 f4 l4 f5 h l)

-- ---- a set of keys
keys_more : (ks : List KeyFields) (k : KeyFields) → KeysFit ks → ((t : Tree) → key_tree k ≡ Some t → Fits t) → KeysFit (ks ++ k ∷ [])
keys_more [] k h f = (f, tt)
keys_more (x ∷ ks) k h f = (h.0, keys_more ks k h.1 f)

pub key_taken : (ks : List CoseKey) (i : ℕ) (k : CoseKey) → i < length ks → k ≡ get_or ks i k → KeysFit (map key_view (take i ks)) → ((t : Tree) → key_tree (key_view k) ≡ Some t → Fits t)
    → KeysFit (map key_view (take (i + 1) ks))
key_taken ks i k l e h f =
    subst (λ z. KeysFit (map key_view z)) (ap (λ z. take i ks ++ z ∷ []) e ∙ sym (take_more ks i k l))
    (subst KeysFit (sym (map-append key_view (take i ks) (k ∷ []))) (keys_more (map key_view (take i ks)) (key_view k) h f))

keys_all : (ks : List KeyFields) (ts : List Tree) → KeysFit ks → all_written key_tree ks ≡ Some ts → (tree_count (trees ts) ≡ length ks) × FitAll (trees ts)
keys_all [] ts f e =
    let h : [] ≡ ts = (let g : Some [] ≡ Some ts = e in cc) in
    subst (λ z. (tree_count (trees z) ≡ 0) × FitAll (trees z)) h (refl, tt)
keys_all (k ∷ ks) ts f e =
    let w = first_of (λ t. t) (key_tree k) (all_written key_tree ks) ts e in
    let r = keys_all ks w.rest f.1 w.others in
    let n = r.0 in
    subst (λ z. (tree_count (trees z) ≡ length (k ∷ ks)) × FitAll (trees z)) (sym w.whole) (omega (arith, n), (f.0 w.first w.is, r.1))

set_by : (ks : List KeyFields) (t : Tree) (o : Option (List Tree)) → KeysFit ks → length ks < 2 ^ 64 → all_written key_tree ks ≡ o → option_map (λ ts. array (trees ts)) o ≡ Some t → Fits t
set_by ks t None f l q e = let h : None ≡ Some t = e in absurd (let g : ⊥ = cc in g)
set_by ks t (Some ts) f l q e =
    let h : array (trees ts) ≡ t = (let g : Some (array (trees ts)) ≡ Some t = e in cc) in
    let w = keys_all ks ts f q in
    let n = w.0 in
    subst Fits h (omega (arith, n, l), w.1)

pub set_fits : (ks : List KeyFields) (t : Tree) → KeysFit ks → length ks < 2 ^ 64 → key_set_tree ks ≡ Some t → Fits t
set_fits ks t f l e = set_by ks t (all_written key_tree ks) f l refl e
