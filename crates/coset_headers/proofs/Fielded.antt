-- What was read of a value is written as that value: labels, names, and the fields of a header.
use Rattle.std.proofs.Common.{◌≡◌, ℕ, List, [], ◌∷◌, map, Option, Some, None, option_map, option_and_then, refl, sym, ap, subst, ◌∙◌}
use Rattle.ciborium_value.specs.Tree.{Tree, bytes, array, Trees, no_trees, one_more, Pairs, no_pairs, pair_more}
use Rattle.ciborium_value.specs.View.{trees, pairs}
use Rattle.cose_iana.specs.Algorithms.{is_algorithm}
use Rattle.cose_iana.specs.Formats.{coap_content_formats}
use Rattle.cose_iana.specs.Headers.{header_parameters}
use Rattle.cose_iana.specs.Registry.{is_private_use}
use Rattle.coset_labels.specs.Facts.Back.{label_back, named_back, registered_back}
use Rattle.coset_labels.specs.Fields.{LabelFields, Named}
use Rattle.coset_labels.specs.Kinds.{some_bytes}
use Rattle.coset_labels.specs.Labels.{label_of, named_tree, named_of}
use Rattle.coset_headers.specs.Headers.{alg_of, parameter_of, parameters_of, crit_of, HasContentType, entries, IsField}
use Rattle.coset_headers.specs.Written.{crit_value, bytes_value, entry_tree}

-- ---- parameters
parameter_step : (t : Tree) (ts : Trees) (m : Option Named) (o : Option (List Named)) (ms : List Named) → ((ns : List Named) → o ≡ Some ns → trees (map named_tree ns) ≡ ts) → parameter_of t ≡ m
    → option_and_then (λ n. option_map (λ ns. n ∷ ns) o) m ≡ Some ms → trees (map named_tree ms) ≡ one_more t ts
parameter_step t ts (Some n) (Some ns) ms k a e =
    let h : n ∷ ns ≡ ms = (let g : Some (n ∷ ns) ≡ Some ms = e in cc) in
    subst (λ z. trees (map named_tree z) ≡ one_more t ts) h
    (ap (λ z. one_more z (trees (map named_tree ns))) (named_back header_parameters.is_registered is_private_use t n a) ∙ ap (λ z. one_more t z) (k ns refl))
parameter_step t ts m o ms k a e = let h : None ≡ Some ms = e in cc

parameters_are : (ts : Trees) (ms : List Named) → parameters_of ts ≡ Some ms → trees (map named_tree ms) ≡ ts
parameters_are no_trees ms e = let h : [] ≡ ms = (let k : Some [] ≡ Some ms = e in cc) in subst (λ z. trees (map named_tree z) ≡ no_trees) h refl
parameters_are (one_more t ts) ms e = parameter_step t ts (parameter_of t) (parameters_of ts) ms (λ ns h. parameters_are ts ns h) refl e

-- ---- the entries of a map
entry_step : (l v : Tree) (ps : Pairs) (m : Option LabelFields) (o : Option (List (LabelFields × Tree))) (es : List (LabelFields × Tree)) → ((fs : List (LabelFields × Tree)) → o ≡ Some fs → pairs (map entry_tree fs) ≡ ps)
    → label_of l ≡ m → option_and_then (λ m. option_map (λ es. (m, v) ∷ es) o) m ≡ Some es → pairs (map entry_tree es) ≡ pair_more l v ps
entry_step l v ps (Some m) (Some fs) es k a e =
    let h : (m, v) ∷ fs ≡ es = (let g : Some ((m, v) ∷ fs) ≡ Some es = e in cc) in
    subst (λ z. pairs (map entry_tree z) ≡ pair_more l v ps) h
    (ap (λ z. pair_more z v (pairs (map entry_tree fs))) (label_back l m a) ∙ ap (λ z. pair_more l v z) (k fs refl))
entry_step l v ps m o es k a e = let h : None ≡ Some es = e in cc

pub entries_are : (ps : Pairs) (es : List (LabelFields × Tree)) → entries ps ≡ Some es → pairs (map entry_tree es) ≡ ps
entries_are no_pairs es e = let h : [] ≡ es = (let k : Some [] ≡ Some es = e in cc) in subst (λ z. pairs (map entry_tree z) ≡ no_pairs) h refl
entries_are (pair_more l v ps) es e = entry_step l v ps (label_of l) (entries ps) es (λ fs h. entries_are ps fs h) refl e

-- ---- the value of each field is that which it was read of
pub alg_is : (o : Option Tree) (a : Option Named) → IsField alg_of None o a → option_map named_tree a ≡ o
alg_is None a h = ap (option_map named_tree) h
alg_is (Some t) a h = go (named_of is_algorithm is_private_use t) refl h
  where
    go : (n : Option Named) → named_of is_algorithm is_private_use t ≡ n → option_map Some n ≡ Some a → option_map named_tree a ≡ Some t
    go None x e = let k : None ≡ Some a = e in cc
    go (Some m) x e =
        let k : Some m ≡ a = (let f : Some (Some m) ≡ Some a = e in cc) in
        subst (λ z. option_map named_tree z ≡ Some t) k (ap Some (named_back is_algorithm is_private_use t m x))

pub crit_items : (t : Tree) (ms : List Named) → crit_of t ≡ Some ms → (u : Tree) × (us : Trees) × (t ≡ array (one_more u us)) × (parameters_of (one_more u us) ≡ Some ms)
crit_items (array (one_more u us)) ms e = (u, us, refl, e)
crit_items t ms e = let h : None ≡ Some ms = e in absurd (let f : ⊥ = cc in f)

crit_full : (c : List Named) (u : Tree) (us : Trees) (t : Tree) → t ≡ array (one_more u us) → trees (map named_tree c) ≡ one_more u us → crit_value c ≡ Some t
crit_full [] u us t q e = let h : no_trees ≡ one_more u us = e in absurd (let f : ⊥ = cc in f)
crit_full (m ∷ ms) u us t q e = ap Some (ap array e ∙ sym q)

pub crit_is : (o : Option Tree) (c : List Named) → IsField crit_of [] o c → crit_value c ≡ o
crit_is None c h = ap crit_value h
crit_is (Some t) c h = let w = crit_items t c h in crit_full c w.0 w.1 t w.2 (parameters_are (one_more w.0 w.1) c w.3)

pub type_is : (o : Option Tree) (c : Option Named) → HasContentType o c → option_map named_tree c ≡ o
type_is None c h = ap (option_map named_tree) h
type_is (Some t) c h = ap (option_map named_tree) h.3 ∙ ap Some (registered_back coap_content_formats.is_registered t h.0 h.1)

pub type_once : (o : Option Tree) (x y : Option Named) → HasContentType o x → HasContentType o y → x ≡ y
type_once None x y a b = a ∙ sym b
type_once (Some t) x y a b =
    let e : Some a.0 ≡ Some b.0 = sym a.1 ∙ b.1 in
    a.3 ∙ e ∙ sym b.3

some_is : (t : Tree) (b : List ℕ) → some_bytes t ≡ Some b → bytes_value b ≡ Some t
some_is (bytes (x ∷ xs)) b e =
    let h : x ∷ xs ≡ b = (let k : Some (x ∷ xs) ≡ Some b = e in cc) in
    subst (λ z. bytes_value z ≡ Some (bytes (x ∷ xs))) h refl
some_is t b e = let h : None ≡ Some b = e in cc

pub bytes_are : (o : Option Tree) (b : List ℕ) → IsField some_bytes [] o b → bytes_value b ≡ o
bytes_are None b h = ap bytes_value h
bytes_are (Some t) b h = some_is t b h
