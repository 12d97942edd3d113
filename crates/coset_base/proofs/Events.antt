-- The events of the parts of headers and signatures, one after another.
use Rattle.std.proofs.Common.{◌≡◌, ◌≢◌, ℕ, suc, ◌+◌, ◌<◌, ◌≤◌, pos, List, [], ◌∷◌, ◌++◌, length, map, cond, Bool, true, false, Option, Some, None, is_some, option_map, vec_len, Vec, Global, length-append, refl, sym, ap, subst, ◌∙◌, append_assoc, append-nil, arith}
use Rattle.std.specs.Prelude.{not, ◌==◌}
use borrow.Author.Tests.{eqb-true}
use Rattle.ciborium_value.specs.Tree as spec
use Rattle.ciborium_value.specs.Tree.{Tree, Trees, no_trees, one_more, tree_count, pair_count}
use Rattle.ciborium_value.specs.View.{trees, pairs}
use Rattle.ciborium_traits.specs.Events as event
use Rattle.ciborium_traits.specs.Events.{Event, events, events_all}
use Rattle.ciborium_traits.proofs.Written.{pairs_counted}
use Rattle.coset_labels.specs.Fields.{LabelFields, number, Named}
use Rattle.coset_labels.specs.Labels.{label_tree, named_tree}
use Rattle.coset_labels.specs.View.{registered_view, named_view}
use Rattle.cose_iana.specs.Algorithms.{algorithm_number}
use Rattle.cose_iana.specs.Formats.{coap_content_formats}
use Rattle.cose_iana.specs.Headers.{header_parameters}
use Rattle.coset_labels.specs.declared.label.Label.{Label}
use Rattle.ciborium_value.specs.declared.value.Value.{Value}
use Rattle.coset_headers.specs.Fields.{Plain, plain_part, HeaderFields, header, Signatures, no_signatures, signature_more}
use Rattle.coset_base.specs.Put.{entry_events, signs_begun, name_events, string_events, entry_count, header_begun, header_put, protected_put, signature_put, signatures_put}
use Rattle.coset_headers.specs.View.{header_view, protected_view, entry_view, signature_view, signatures_view, plain_parts}
use Rattle.coset_headers.specs.Values.{entries_from, values_of}
use Rattle.coset_headers.specs.Written.{entry_of, name_entry, crit_entry, bytes_entry, written_entries, entry_tree, tree_of, bare_or_list, is_nil, is_unsigned}
use Rattle.coset_headers.specs.declared.header.CoseSignature.{CoseSignature, out-CoseSignature}
use Rattle.coset_headers.specs.declared.header.Header.{Header, out-Header}
use Rattle.coset_headers.proofs.Alike.{header_is, signature_is}

-- ---- entries
pub entries_joined : (xs ys : List (LabelFields × Tree)) → entry_events (xs ++ ys) ≡ entry_events xs ++ entry_events ys
entries_joined [] ys = refl
entries_joined (x ∷ xs) ys =
    ap (λ z. events (label_tree x.0) ++ (events x.1 ++ z)) (entries_joined xs ys)
    ∙ ap (λ z. events (label_tree x.0) ++ z) (sym (append_assoc (events x.1) (entry_events xs) (entry_events ys)))
    ∙ sym (append_assoc (events (label_tree x.0)) (events x.1 ++ entry_events xs) (entry_events ys))

pub one_entry : (k : ℕ) (t : Tree) → entry_events ((number (pos k), t) ∷ []) ≡ event.integer (pos k) ∷ events t
one_entry k t = ap (λ z. event.integer (pos k) ∷ z) (append-nil (events t))

pub signs_joined : (ts : Trees) → signs_begun ts ++ events_all ts ≡ entry_events (entry_of 7 (bare_or_list ts))
signs_joined no_trees = refl
signs_joined (one_more t no_trees) = refl
signs_joined (one_more t (one_more u us)) = sym (one_entry 7 (spec.array (one_more t (one_more u us))))

-- the events of values whose labels count up from n, and then these
abbrev from : ℕ → List (Option Tree) → List Event → List Event
from n [] es = es
from n (o ∷ os) es = entry_events (entry_of n o) ++ from (suc n) os es

joined_from : (n : ℕ) (os : List (Option Tree)) (es : List (LabelFields × Tree)) → entry_events (entries_from n os es) ≡ from n os (entry_events es)
joined_from n [] es = refl
joined_from n (o ∷ os) es = entries_joined (entry_of n o) (entries_from (suc n) os es) ∙ ap (λ z. entry_events (entry_of n o) ++ z) (joined_from (suc n) os es)

regrouped : (a b c d e f g h r : List Event) → ((a ++ (b ++ c)) ++ ((d ++ (e ++ f)) ++ g)) ++ (h ++ r) ≡ a ++ (b ++ (c ++ (d ++ (e ++ (f ++ ((g ++ h) ++ r))))))
regrouped a b c d e f g h r = simp append_assoc

-- a header is its beginning, its counter signatures and its other entries
pub header_joined : (p : Plain) (ts : Trees)
    → (event.map (length (written_entries p (bare_or_list ts))) ∷ (name_events p ++ (string_events p ++ signs_begun ts))) ++ (events_all ts ++ entry_events p.rest)
    ≡ events (tree_of (written_entries p (bare_or_list ts)))
header_joined p ts =
    let o = bare_or_list ts in
    let w = written_entries p o in
    let count : length w ≡ pair_count (pairs (map entry_tree w)) = sym (pairs_counted entry_tree w) in
    let parts : (name_events p ++ (string_events p ++ signs_begun ts)) ++ (events_all ts ++ entry_events p.rest) ≡ entry_events w =
    regrouped (entry_events (name_entry 1 p.alg)) (entry_events (crit_entry p.crit)) (entry_events (name_entry 3 p.content_type)) (entry_events (bytes_entry 4 p.key_id)) (entry_events (bytes_entry 5 p.iv))
    (entry_events (bytes_entry 6 p.partial_iv)) (signs_begun ts) (events_all ts) (entry_events p.rest)
    ∙ sym (joined_from 1 (values_of p ++ o ∷ []) p.rest ∙ ap (λ z. from 1 (values_of p) (z ++ entry_events p.rest)) (sym (signs_joined ts))) in
    ap (λ z. event.map (length w) ∷ z) parts ∙ ap (λ z. event.map z ∷ entry_events w) count

-- ---- lists of signatures
pub signatures_counted : (ss : List CoseSignature) → tree_count (signatures_put (signatures_view ss)) ≡ length ss
signatures_counted [] = refl
signatures_counted (s ∷ ss) = let h : tree_count (signatures_put (signatures_view ss)) ≡ length ss = signatures_counted ss in omega arith

-- ---- the label of counter signatures, and the beginning of their list
pub several_begun : (ss : List CoseSignature) (n : ℕ) → n ≡ length ss → 1 < n → event.integer (pos 7) ∷ (event.array n ∷ []) ≡ signs_begun (signatures_put (signatures_view ss))
several_begun (s ∷ (u ∷ us)) n e l = ap (λ z. event.integer (pos 7) ∷ (event.array z ∷ [])) (e ∙ sym (signatures_counted (s ∷ (u ∷ us))))
several_begun ss n e l = absurd (omega (arith, e, l))

pub one_begun : (ss : List CoseSignature) (n : ℕ) → n ≡ length ss → ss ≢ [] → n ≤ 1 → event.integer (pos 7) ∷ [] ≡ signs_begun (signatures_put (signatures_view ss))
one_begun [] n e d l = absurd (d refl)
one_begun (s ∷ []) n e d l = refl
one_begun (s ∷ (u ∷ us)) n e d l = absurd (omega (arith, e, l))

pub signs_counted : (ss : Signatures) → length (entry_of 7 (bare_or_list (signatures_put ss))) ≡ cond (not (is_unsigned ss)) 1 0
signs_counted no_signatures = refl
signs_counted (signature_more s no_signatures) = refl
signs_counted (signature_more s (signature_more u us)) = refl

-- ---- the list of labels that have to be understood
names_counted : {A : Type 0} (f : A → Named) (xs : List A) → tree_count (trees (map named_tree (map f xs))) ≡ length xs
names_counted f [] = refl
names_counted f (x ∷ xs) = let h : tree_count (trees (map named_tree (map f xs))) ≡ length xs = names_counted f xs in omega arith

pub crit_opened : {A : Type 0} (f : A → Named) (xs : List A) → xs ≢ []
    → entry_events (crit_entry (map f xs)) ≡ event.integer (pos 2) ∷ (event.array (length xs) ∷ events_all (trees (map named_tree (map f xs))))
crit_opened f [] d = absurd (d refl)
crit_opened f (x ∷ xs) d =
    let ts = trees (map named_tree (map f (x ∷ xs))) in
    one_entry 2 (spec.array ts) ∙ ap (λ z. event.integer (pos 2) ∷ (event.array z ∷ events_all ts)) (names_counted f (x ∷ xs))

-- ---- headers and signatures by their parts, as they are written
pub kinds_opened : (h : Header) → name_events (plain_part (header_view h))
    ≡ entry_events (name_entry 1 (option_map (named_view algorithm_number) (out-Header h).alg))
    ++ (entry_events (crit_entry (map (named_view header_parameters.number) (out-Header h).crit.items)) ++ entry_events (name_entry 3 (option_map (registered_view coap_content_formats.number) (out-Header h).content_type)))
kinds_opened h = ap (λ z. name_events (plain_part z)) (header_is h)

pub strings_opened : (h : Header) → string_events (plain_part (header_view h))
    ≡ entry_events (bytes_entry 4 (out-Header h).key_id.items) ++ (entry_events (bytes_entry 5 (out-Header h).iv.items) ++ entry_events (bytes_entry 6 (out-Header h).partial_iv.items))
strings_opened h = ap (λ z. string_events (plain_part z)) (header_is h)

begun_of : (f : HeaderFields) (p : Plain) (ss : Signatures) → f ≡ header p ss
    → header_begun f ≡ event.map (entry_count f) ∷ (name_events (plain_part f) ++ (string_events (plain_part f) ++ signs_begun (signatures_put ss)))
begun_of f p ss e =
    subst (λ z. header_begun z ≡ event.map (entry_count z) ∷ (name_events (plain_part z) ++ (string_events (plain_part z) ++ signs_begun (signatures_put ss)))) (sym e) refl

pub begun_opened : (h : Header) → header_begun (header_view h)
    ≡ event.map (entry_count (header_view h)) ∷ (name_events (plain_part (header_view h)) ++ (string_events (plain_part (header_view h)) ++ signs_begun (signatures_put (signatures_view (out-Header h).counter_signatures.items))))
begun_opened h = begun_of (header_view h) _ _ (header_is h)

put_of : (f : HeaderFields) (p : Plain) (ss : Signatures) → f ≡ header p ss → events (header_put f) ≡ header_begun f ++ (events_all (signatures_put ss) ++ entry_events p.rest)
put_of f p ss e = subst (λ z. events (header_put z) ≡ header_begun z ++ (events_all (signatures_put ss) ++ entry_events p.rest)) (sym e) (sym (header_joined p (signatures_put ss)))

pub header_opened : (h : Header) → events (header_put (header_view h))
    ≡ header_begun (header_view h) ++ (events_all (signatures_put (signatures_view (out-Header h).counter_signatures.items)) ++ entry_events (map entry_view (out-Header h).rest.items))
header_opened h = put_of (header_view h) _ _ (header_is h)

pub signature_opened : (s : CoseSignature) → events (signature_put (signature_view s))
    ≡ event.array 3 ∷ (events (protected_put (protected_view (out-CoseSignature s).protected)) ++ (events (header_put (header_view (out-CoseSignature s).unprotected)) ++ (event.bytes (out-CoseSignature s).signature.items ∷ [])))
signature_opened s = ap (λ z. events (signature_put z)) (signature_is s)

pub list_opened : (ss : List CoseSignature) → events (spec.array (signatures_put (signatures_view ss))) ≡ event.array (length ss) ∷ events_all (signatures_put (signatures_view ss))
list_opened ss = ap (λ z. event.array z ∷ events_all (signatures_put (signatures_view ss))) (signatures_counted ss)

-- ---- how many entries a header has
not_true : (b : Bool) → (b ≡ true → ⊥) → b ≡ false
not_true true h = absurd (h refl)
not_true false h = refl

nil_tested : {A : Type 0} (xs : List A) → (length xs == 0) ≡ is_nil xs
nil_tested [] = refl
nil_tested (x ∷ xs) = not_true (length (x ∷ xs) == 0) (λ h. let e : length (x ∷ xs) ≡ 0 = eqb-true (length (x ∷ xs)) 0 h in absurd (omega (arith, e)))

nil_vec : {A : Type 0} (v : Vec A Global) (b : Bool) → b ≡ (vec_len v == 0) → b ≡ is_nil v.items
nil_vec v b e = e ∙ ap (λ n. n == 0) v.ok.0 ∙ nil_tested v.items

pub name_counted : {A : Type 0} (k : ℕ) (f : A → Named) (o : Option A) (b : Bool) (n : ℕ) → n ≡ cond b 1 0 → b ≡ is_some o → n ≡ length (name_entry k (option_map f o))
name_counted k f None b n e q = e ∙ ap (λ z. cond z 1 0) q
name_counted k f (Some x) b n e q = e ∙ ap (λ z. cond z 1 0) q

crit_length : {A : Type 0} (f : A → Named) (xs : List A) → cond (not (is_nil xs)) 1 0 ≡ length (crit_entry (map f xs))
crit_length f [] = refl
crit_length f (x ∷ xs) = refl

pub crit_counted : {A : Type 0} (f : A → Named) (v : Vec A Global) (b : Bool) (n : ℕ) → n ≡ cond (not b) 1 0 → b ≡ (vec_len v == 0) → n ≡ length (crit_entry (map f v.items))
crit_counted f v b n e q = e ∙ ap (λ z. cond (not z) 1 0) (nil_vec v b q) ∙ crit_length f v.items

bytes_length : (k : ℕ) (xs : List ℕ) → cond (not (is_nil xs)) 1 0 ≡ length (bytes_entry k xs)
bytes_length k [] = refl
bytes_length k (x ∷ xs) = refl

pub bytes_counted : (k : ℕ) (v : Vec ℕ Global) (b : Bool) (n : ℕ) → n ≡ cond (not b) 1 0 → b ≡ (vec_len v == 0) → n ≡ length (bytes_entry k v.items)
bytes_counted k v b n e q = e ∙ ap (λ z. cond (not z) 1 0) (nil_vec v b q) ∙ bytes_length k v.items

pub several_counted : (xs ss : List CoseSignature) (b : Bool) (n : ℕ) → n ≡ cond b 1 0 → b ≡ not (is_unsigned (signatures_view xs)) → xs ≡ ss
    → n ≡ length (entry_of 7 (bare_or_list (signatures_put (signatures_view ss))))
several_counted xs ss b n e q f = e ∙ ap (λ z. cond z 1 0) (q ∙ ap (λ z. not (is_unsigned (signatures_view z))) f) ∙ sym (signs_counted (signatures_view ss))

map_long : {A B : Type 0} (f : A → B) (xs : List A) → length (map f xs) ≡ length xs
map_long f [] = refl
map_long f (x ∷ xs) = let h : length (map f xs) ≡ length xs = map_long f xs in omega arith

pub rest_counted : (xs es : List (Label × Value)) (n : ℕ) → n ≡ length xs → xs ≡ es → n ≡ length (map entry_view es)
rest_counted xs es n e f = e ∙ ap length f ∙ sym (map_long entry_view es)

abbrev sizes : ℕ → List (Option Tree) → ℕ
sizes n [] = 0
sizes n (o ∷ os) = length (entry_of n o) + sizes (suc n) os

long_from : (n : ℕ) (os : List (Option Tree)) (es : List (LabelFields × Tree)) → length (entries_from n os es) ≡ sizes n os + length es
long_from n [] es = omega arith
long_from n (o ∷ os) es = let h = long_from (suc n) os es in let k = length-append (entry_of n o) (entries_from (suc n) os es) in omega (arith, h, k)

pub entries_counted : (h : Header) (a b c d e f g n : ℕ) → a ≡ length (name_entry 1 (plain_parts (out-Header h)).alg) → b ≡ length (crit_entry (plain_parts (out-Header h)).crit)
    → c ≡ length (name_entry 3 (plain_parts (out-Header h)).content_type) → d ≡ length (bytes_entry 4 (plain_parts (out-Header h)).key_id) → e ≡ length (bytes_entry 5 (plain_parts (out-Header h)).iv)
    → f ≡ length (bytes_entry 6 (plain_parts (out-Header h)).partial_iv) → g ≡ length (entry_of 7 (bare_or_list (signatures_put (signatures_view (out-Header h).counter_signatures.items))))
    → n ≡ length (plain_parts (out-Header h)).rest → a + b + c + d + e + f + g + n ≡ entry_count (header_view h)
entries_counted h a b c d e f g n ea eb ec ed ee ef eg en = total (plain_parts (out-Header h)) (bare_or_list (signatures_put (signatures_view (out-Header h).counter_signatures.items))) ea eb ec ed ee ef eg en ∙ sym (ap entry_count (header_is h))
  where
    total : (p : Plain) (o : Option Tree) → a ≡ length (name_entry 1 p.alg) → b ≡ length (crit_entry p.crit) → c ≡ length (name_entry 3 p.content_type) → d ≡ length (bytes_entry 4 p.key_id)
        → e ≡ length (bytes_entry 5 p.iv) → f ≡ length (bytes_entry 6 p.partial_iv) → g ≡ length (entry_of 7 o) → n ≡ length p.rest → a + b + c + d + e + f + g + n ≡ length (written_entries p o)
    total p o ea eb ec ed ee ef eg en =
        let h : length (written_entries p o)
        ≡ (length (name_entry 1 p.alg) + (length (crit_entry p.crit) + (length (name_entry 3 p.content_type) + (length (bytes_entry 4 p.key_id) + (length (bytes_entry 5 p.iv) + (length (bytes_entry 6 p.partial_iv)
        + (length (entry_of 7 o) + 0))))))) + length p.rest = long_from 1 (values_of p ++ o ∷ []) p.rest in
        omega (arith, h, ea, eb, ec, ed, ee, ef, eg, en)
