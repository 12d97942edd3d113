-- What is written of a header fits heads if its parts do.
use Rattle.std.proofs.Common.{◌≡◌, ℕ, ◌+◌, ◌^◌, ◌<◌, ◌≤◌, inl, inr, List, [], ◌∷◌, ◌++◌, length, map, Bool, true, false, cond, Option, Some, None, option_map, refl, sym, ap, subst, ◌∙◌, arith, suc, take, get_or}
use Rattle.std.specs.Prelude.{All}
use Rattle.std.proofs.lemmas.List.{take_more}
use Rattle.cose_iana.specs.declared.headers.HeaderParameter.{HeaderParameter}
use Rattle.cose_iana.specs.Headers.{header_parameters}
use Rattle.ciborium_value.specs.Tree.{Tree, bytes, array, Trees, no_trees, one_more, tree_count, pair_count}
use Rattle.ciborium_value.specs.View.{trees, pairs, view}
use Rattle.ciborium_value.specs.Encoding.{enc, Fits, FitAll, FitPairs}
use Rattle.ciborium_value.proofs.EncodedBytes.{enc_low}
use Rattle.ciborium_value.specs.declared.value.Value.{Value}
use Rattle.coset_labels.specs.Fields.{LabelFields, Named}
use Rattle.coset_labels.specs.Labels.{label_tree, named_tree}
use Rattle.coset_labels.specs.View.{label_view, named_view}
use Rattle.coset_labels.specs.declared.registered.RegisteredLabelWithPrivate.{RegisteredLabelWithPrivate}
use Rattle.coset_labels.specs.declared.label.Label.{Label}
use Rattle.coset_headers.specs.Entries.{AllFit, ValueFits, ValuesFit}
use Rattle.coset_headers.specs.Fields.{Plain, HeaderFields, header, protected, ProtectedFields, SignatureFields, signature, Signatures, no_signatures, signature_more}
use Rattle.coset_headers.specs.Headers.{at, HasHeader, HasProtected, HasSignature, HasSigned, HasSignatures}
use Rattle.coset_headers.specs.Parts.{plain_of, signs_of}
use Rattle.coset_headers.specs.Short.{IsShort, ShowsShort, SignatureShort, AllShort}
use Rattle.coset_headers.specs.View.{header_view, protected_view, signature_view, signatures_view, entry_view}
use Rattle.coset_headers.specs.Written.{entry_of, crit_value, bytes_value, written_entries, entry_tree, bare_or_list, header_tree, shown, signature_tree, signature_trees, is_empty}
use Rattle.coset_headers.specs.Values.{values_of, entries_from}
use Rattle.coset_headers.specs.declared.header.Header.{Header, out-Header}
use Rattle.coset_headers.specs.declared.header.ProtectedHeader.{ProtectedHeader, out-ProtectedHeader}
use Rattle.coset_headers.specs.declared.header.CoseSignature.{CoseSignature, out-CoseSignature}
use Rattle.coset_headers.proofs.Again.{header_parts, signature_parts, trees_parts}
use Rattle.coset_headers.proofs.Alike.{header_is, protected_is, signature_is}

-- ---- entries
abbrev pub Each : {A : Type 0} → (A → Type 0) → List A → Type 0
Each P [] = Unit {0}
Each P (x ∷ xs) = P x × Each P xs

pub name_fits : (o : Option Named) → ((m : Named) → o ≡ Some m → Fits (named_tree m)) → ValueFits (option_map named_tree o)
name_fits None f = tt
name_fits (Some m) f = f m refl

names_count : (ms : List Named) → tree_count (trees (map named_tree ms)) ≡ length ms
names_count [] = refl
names_count (m ∷ ms) = let h = names_count ms in omega (arith, h)

list_fits : (ms : List Named) → FitAll (trees (map named_tree ms)) → length ms < 2 ^ 64 → ValueFits (crit_value ms)
list_fits [] f l = tt
list_fits (m ∷ ms) f l = let h = names_count (m ∷ ms) in (omega (arith, h, l), f)

map_long : {A B : Type 0} (f : A → B) (xs : List A) → length (map f xs) ≡ length xs
map_long f [] = refl
map_long f (x ∷ xs) = let h = map_long f xs in omega (arith, h)

-- the slices are those of the header
pub crit_fits : {A : Type 0} (f : A → Named) (xs ys : List A) → xs ≡ ys → FitAll (trees (map named_tree (map f xs))) → length xs < 2 ^ 64 → ValueFits (crit_value (map f ys))
crit_fits f xs ys e c l = let h = map_long f xs in subst (λ z. ValueFits (crit_value (map f z))) e (list_fits (map f xs) c (omega (arith, h, l)))

pub rest_fits : (rs : List (Label × Value)) (h : Header) → rs ≡ (out-Header h).rest.items → AllFit (map entry_view rs) → AllFit (plain_of h).rest
rest_fits rs h e a = subst (λ z. AllFit (map entry_view z)) e a

pub rest_long : (rs : List (Label × Value)) (h : Header) → rs ≡ (out-Header h).rest.items → length rs + 8 < 2 ^ 64 → length (plain_of h).rest + 8 < 2 ^ 64
rest_long rs h e l = let a = map_long entry_view (out-Header h).rest.items in let b = ap length e in omega (arith, a, b, l)

pub string_fits : (xs ys : List ℕ) → xs ≡ ys → Fits (bytes xs) → ValueFits (bytes_value ys)
string_fits [] ys e f = subst (λ z. ValueFits (bytes_value z)) e tt
string_fits (x ∷ xs) ys e f = subst (λ z. ValueFits (bytes_value z)) e f

bare_fits : (ts : Trees) → FitAll ts → tree_count ts < 2 ^ 64 → ValueFits (bare_or_list ts)
bare_fits no_trees f l = tt
bare_fits (one_more t no_trees) f l = f.0
bare_fits (one_more t (one_more u us)) f l = (l, f)

fit_from : (n : ℕ) (os : List (Option Tree)) (es : List (LabelFields × Tree)) → n + length os ≤ 8 → ValuesFit os → AllFit es → AllFit (entries_from n os es)
fit_from n [] es l f a = a
fit_from n (None ∷ os) es l f a = fit_from (suc n) os es (omega (arith, l)) f.1 a
fit_from n (Some t ∷ os) es l f a = (omega (arith, l), f.0, fit_from (suc n) os es (omega (arith, l)) f.1 a)

short_from : (n : ℕ) (os : List (Option Tree)) (es : List (LabelFields × Tree)) → length (entries_from n os es) ≤ length os + length es
short_from n [] es = omega arith
short_from n (None ∷ os) es = let h = short_from (suc n) os es in omega (arith, h)
short_from n (Some t ∷ os) es = let h = short_from (suc n) os es in omega (arith, h)

pairs_fit : (es : List (LabelFields × Tree)) → AllFit es → FitPairs (pairs (map entry_tree es))
pairs_fit [] a = tt
pairs_fit (e ∷ es) a = (a.0, a.1, pairs_fit es a.2)

pairs_count : (es : List (LabelFields × Tree)) → pair_count (pairs (map entry_tree es)) ≡ length es
pairs_count [] = refl
pairs_count (e ∷ es) = let h = pairs_count es in omega (arith, h)

fields_fit : (p : Plain) (ss : Signatures) (u : Tree) → ValuesFit (values_of p) → AllFit p.rest → length p.rest + 8 < 2 ^ 64
    → ((ts : Trees) → signature_trees ss ≡ Some ts → FitAll ts) → ((ts : Trees) → signature_trees ss ≡ Some ts → tree_count ts < 2 ^ 64) → header_tree (header p ss) ≡ Some u → Fits u
fields_fit p ss u v r n s m e =
    let w = header_parts p (signature_trees ss) u e in
    let o = bare_or_list w.0 in
    let es = written_entries p o in
    let signs : AllFit (entry_of 7 o ++ p.rest) = fit_from 7 (o ∷ []) p.rest (omega arith) (bare_fits w.0 (s w.0 w.1) (m w.0 w.1), tt) r in
    let all : AllFit es = fit_from 1 (values_of p) (entry_of 7 o ++ p.rest) (omega arith) v signs in
    let few = short_from 1 (values_of p ++ o ∷ []) p.rest in
    let count = pairs_count es in
    subst Fits w.2 (omega (arith, few, count, n), pairs_fit es all)

pub header_fit : (h : Header) (u : Tree) (ss : List CoseSignature) → ss ≡ (out-Header h).counter_signatures.items
    → ValuesFit (values_of (plain_of h)) → AllFit (plain_of h).rest → length (plain_of h).rest + 8 < 2 ^ 64
    → ((ts : Trees) → signature_trees (signatures_view ss) ≡ Some ts → AllShort (signatures_view ss) → FitAll ts)
    → ((ts : Trees) → signature_trees (signatures_view ss) ≡ Some ts → tree_count ts < 2 ^ 64)
    → header_tree (header_view h) ≡ Some u → IsShort (header_view h) → Fits u
header_fit h u ss es v r n s m e short =
    let same = header_is h in
    let all : AllShort (signs_of h) = subst IsShort same short in
    let s' = subst (λ z. (ts : Trees) → signature_trees (signatures_view z) ≡ Some ts → AllShort (signatures_view z) → FitAll ts) es s in
    let m' = subst (λ z. (ts : Trees) → signature_trees (signatures_view z) ≡ Some ts → tree_count ts < 2 ^ 64) es m in
    fields_fit (plain_of h) (signs_of h) u v r n (λ ts g. s' ts g all) m' (sym (ap header_tree same) ∙ e)

-- ---- protected headers and signatures
abbrev AreBytes : List ℕ → Type 0
AreBytes = All (λ x. x < 256)

pub protected_fit : (h : HeaderFields) (b : List ℕ) → ((u : Tree) → header_tree h ≡ Some u → IsShort h → Fits u) → shown (protected None h) ≡ Some b → ShowsShort (protected None h) → Fits (bytes b)
protected_fit h b f e s = (s.1 b e, go (is_empty h) (header_tree h) refl e)
  where
    go : (c : Bool) (o : Option Tree) → header_tree h ≡ o → cond c (Some []) (option_map enc o) ≡ Some b → AreBytes b
    go true o g e = let k : [] ≡ b = (let m : Some [] ≡ Some b = e in cc) in subst AreBytes k (λ n d l. absurd (omega (arith, l)))
    go false None g e = let k : None ≡ Some b = e in absurd (let m : ⊥ = cc in m)
    go false (Some u) g e = let k : enc u ≡ b = (let m : Some (enc u) ≡ Some b = e in cc) in subst AreBytes k (enc_low u (f u g s.0))

pub signature_fit : (p : ProtectedFields) (h : HeaderFields) (c d : List ℕ) (u : Tree) → ((b : List ℕ) → shown p ≡ Some b → ShowsShort p → Fits (bytes b))
    → ((v : Tree) → header_tree h ≡ Some v → IsShort h → Fits v) → d ≡ c → Fits (bytes d) → signature_tree (signature p h c) ≡ Some u → SignatureShort (signature p h c) → Fits u
signature_fit p h c d u f g q k e s =
    let w = signature_parts (shown p) (header_tree h) c u e in
    subst Fits w.4 (omega arith, (f w.0 w.2 s.0, (g w.1 w.3 s.1, (subst (λ z. Fits (bytes z)) q k, tt))))

pub unsent_fit : (p : ProtectedHeader) (b : List ℕ) → (out-ProtectedHeader p).original_data ≡ None
    → ((u : Tree) → header_tree (header_view (out-ProtectedHeader p).header) ≡ Some u → IsShort (header_view (out-ProtectedHeader p).header) → Fits u)
    → shown (protected_view p) ≡ Some b → ShowsShort (protected_view p) → Fits (bytes b)
unsent_fit p b e f g s =
    let h = header_view (out-ProtectedHeader p).header in
    let same : protected_view p ≡ protected None h = protected_is p ∙ ap (λ z. protected (option_map (λ v. v.items) z) h) e in
    protected_fit h b f (sym (ap shown same) ∙ g) (subst ShowsShort same s)

pub signature_fit_by : (s : CoseSignature) (d : List ℕ) (u : Tree) → ((b : List ℕ) → shown (protected_view (out-CoseSignature s).protected) ≡ Some b → ShowsShort (protected_view (out-CoseSignature s).protected) → Fits (bytes b))
    → ((v : Tree) → header_tree (header_view (out-CoseSignature s).unprotected) ≡ Some v → IsShort (header_view (out-CoseSignature s).unprotected) → Fits v)
    → d ≡ (out-CoseSignature s).signature.items → Fits (bytes d) → signature_tree (signature_view s) ≡ Some u → SignatureShort (signature_view s) → Fits u
signature_fit_by s d u f g q k e h =
    let same = signature_is s in
    signature_fit (protected_view (out-CoseSignature s).protected) (header_view (out-CoseSignature s).unprotected) (out-CoseSignature s).signature.items d u f g q k (sym (ap signature_tree same) ∙ e) (subst SignatureShort same h)

-- ---- counter signatures
abbrev pub SignatureFits : CoseSignature → Type 0
SignatureFits s = (u : Tree) → signature_tree (signature_view s) ≡ Some u → SignatureShort (signature_view s) → Fits u

pub signatures_fit : (xs : List CoseSignature) (ts : Trees) → Each SignatureFits xs → signature_trees (signatures_view xs) ≡ Some ts → AllShort (signatures_view xs) → FitAll ts
signatures_fit [] ts a e s = let h : no_trees ≡ ts = (let k : Some no_trees ≡ Some ts = e in cc) in subst FitAll h tt
signatures_fit (x ∷ xs) ts a e s =
    let w = trees_parts (signature_tree (signature_view x)) (signature_trees (signatures_view xs)) ts e in
    subst FitAll w.4 (a.0 w.0 w.2 s.0, signatures_fit xs w.1 a.1 w.3 s.1)

pub signatures_count : (xs : List CoseSignature) (ts : Trees) → signature_trees (signatures_view xs) ≡ Some ts → tree_count ts ≡ length xs
signatures_count [] ts e = let h : no_trees ≡ ts = (let k : Some no_trees ≡ Some ts = e in cc) in ap tree_count (sym h)
signatures_count (x ∷ xs) ts e =
    let w = trees_parts (signature_tree (signature_view x)) (signature_trees (signatures_view xs)) ts e in
    let h = signatures_count xs w.1 w.3 in let g = ap tree_count w.4 in omega (arith, h, g)

-- ---- the steps of the walks
each_snoc : {A : Type 0} (P : A → Type 0) (xs : List A) (x : A) → Each P xs → P x → Each P (xs ++ x ∷ [])
each_snoc P [] x a p = (p, tt)
each_snoc P (y ∷ ys) x a p = (a.0, each_snoc P ys x a.1 p)

pub each_taken : {A : Type 0} (P : A → Type 0) (xs : List A) (i : ℕ) (x : A) → i < length xs → x ≡ get_or xs i x → Each P (take i xs) → P x → Each P (take (i + 1) xs)
each_taken P xs i x l e a p = subst (Each P) (ap (λ z. take i xs ++ z ∷ []) e ∙ sym (take_more xs i x l)) (each_snoc P (take i xs) x a p)

abbrev pub NameFits : RegisteredLabelWithPrivate HeaderParameter → Type 0
NameFits n = Fits (named_tree (named_view header_parameters.number n))

abbrev pub EntryFits : Label × Value → Type 0
EntryFits e = Fits (label_tree (label_view e.0)) × Fits (view e.1)

pub names_all : (xs : List (RegisteredLabelWithPrivate HeaderParameter)) → Each NameFits xs → FitAll (trees (map named_tree (map (named_view header_parameters.number) xs)))
names_all [] a = tt
names_all (x ∷ xs) a = (a.0, names_all xs a.1)

pub entries_all : (xs : List (Label × Value)) → Each EntryFits xs → AllFit (map entry_view xs)
entries_all [] a = tt
entries_all (x ∷ xs) a = (a.0.0, a.0.1, entries_all xs a.1)

-- ---- what was read is short: it has its received bytes
pub prot_short : (n : ℕ) (p : ProtectedFields) (t : Tree) (k : ℕ) → HasProtected n t p k → ShowsShort p
prot_short n (protected None h) t k a = let e : None ≡ Some a.0 = a.2 in absurd (let f : ⊥ = cc in f)
prot_short n (protected (Some b) h) t k a = tt

mutual
  pub hdr_short : (n : ℕ) (h : HeaderFields) (t : Tree) (k : ℕ) → HasHeader n t h k → IsShort h
  hdr_short n (header p ss) t k a = signed_short n ss (at 7 a.1) k a.6

  pub sig_short : (n : ℕ) (s : SignatureFields) (t : Tree) (k : ℕ) → HasSignature n t s k → SignatureShort s
  sig_short n (signature p h c) t k a = (prot_short n p a.0 k a.3, hdr_short n h a.1 k a.4)

  signed_short : (n : ℕ) (ss : Signatures) (o : Option Tree) (k : ℕ) → HasSigned n o ss k → AllShort ss
  signed_short n no_signatures o k a = tt
  signed_short n (signature_more s ss) o k (ts, is, inl (bare, rest, one)) = (sig_short n s (array ts) k one, subst AllShort (sym rest) tt)
  signed_short n (signature_more s ss) o k (ts, is, inr (list, more)) = (sig_short n s more.0 k more.3, sigs_short n ss more.1 k more.4)

  sigs_short : (n : ℕ) (ss : Signatures) (ts : Trees) (k : ℕ) → HasSignatures n ts ss k → AllShort ss
  sigs_short n no_signatures ts k a = tt
  sigs_short n (signature_more s ss) ts k a = (sig_short n s a.0 k a.3, sigs_short n ss a.1 k a.4)
