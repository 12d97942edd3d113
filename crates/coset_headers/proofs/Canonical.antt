-- A header or a signature that was read is as written exactly when the test on its value says so.
use Rattle.std.proofs.Common.{◌≡◌, ◌≢◌, ℕ, ◌≤◌, ◌⊎◌, inl, inr, List, [], ◌∷◌, map, Bool, true, false, cond, nat_eq, nat_lt, Option, Some, None, option_map, option_and_then, refl, sym, ap, subst, ◌∙◌, arith}
use Rattle.std.specs.Prelude.{◌&&◌, Decides, MatchBool}
use Rattle.std.proofs.lemmas.Bool.Decides.{nat_tests}
use borrow.Author.Tests.{eqb-true}
use Rattle.ciborium_value.specs.Tree.{Tree, bytes, array, map as map_tree, Trees, no_trees, one_more, Pairs, no_pairs, pair_more}
use Rattle.ciborium_value.specs.View.{pairs}
use Rattle.coset_labels.specs.Facts.Back.{label_back}
use Rattle.coset_labels.specs.Fields.{LabelFields}
use Rattle.coset_labels.specs.Labels.{label_of}
use Rattle.coset_headers.specs.AsWritten.{place_of, is_several, is_canonical_header, are_canonical_entries, are_canonical_counter_signatures, are_canonical_signatures, is_canonical_signature}
use Rattle.coset_headers.specs.Fields.{Plain, HeaderFields, header, ProtectedFields, protected, SignatureFields, signature, Signatures, no_signatures, signature_more}
use Rattle.coset_headers.specs.Headers.{is_at, entries, at, Distinct, IsBare, IsList, list_of_three, HasHeader, HasSignature, HasSigned, HasSignatures}
use Rattle.coset_headers.specs.Written.{twice, entry_tree, tree_of, written_entries, bare_or_list, header_of, header_tree, shown, signature_tree, signature_trees}
use Rattle.coset_headers.proofs.Again.{signature_parts, trees_parts}
use Rattle.coset_headers.proofs.Entered.{bool_cases, at_none, gather, fields_are}
use Rattle.coset_headers.proofs.Fielded.{entries_are}
use Rattle.coset_headers.proofs.Ranked.{rank, Sorted, at_rank, rank_at, gather_sorted, sorted_gathered}
use Rattle.coset_headers.proofs.Writable.{distinct_others, signed_some}
use Rattle.coset_headers.proofs.Written.{once_only}
use Rattle.coset_headers.proofs.Wrote.{NoneCore, others_none, AllLabels, read_labels, other_labels, entries_again, wrote_at, wrote_labels}

-- ---- tests
pub and_left : (a b : Bool) → (a && b) ≡ true → a ≡ true
and_left true b e = refl
and_left false b e = let h : false ≡ true = e in cc

pub and_right : (a b : Bool) → (a && b) ≡ true → b ≡ true
and_right true b e = e
and_right false b e = let h : false ≡ true = e in cc

pub both_true : (a b : Bool) → a ≡ true → b ≡ true → (a && b) ≡ true
both_true a b x y = ap (λ z. z && b) x ∙ y

unless_true : (a b : Bool) → cond a false b ≡ true → (a ≡ false) × (b ≡ true)
unless_true true b e = let h : false ≡ true = e in absurd (let f : ⊥ = cc in f)
unless_true false b e = (refl, e)

pub match_by : {P : Type 0} (b : Bool) → Decides b P → MatchBool b P (P → ⊥)
match_by true d = d.0 refl
match_by false d = λ p. let h : false ≡ true = d.1 p in absurd (let f : ⊥ = cc in f)

not_less : (q r : ℕ) → nat_lt q r ≡ false → r ≤ q
not_less q r e = grind (arith, nat_tests)

no_less : (q r : ℕ) → r ≤ q → nat_lt q r ≡ false
no_less q r h = grind (arith, nat_tests)

pub some_same : {A : Type 0} (x y : A) → Some x ≡ Some y → x ≡ y
some_same x y e = cc

-- ---- the entries
abbrev SignsAreCanonical : Option Tree → Type 0
SignsAreCanonical None = Unit {0}
SignsAreCanonical (Some t) = are_canonical_counter_signatures t ≡ true

abbrev EntriesAreCanonical : ℕ → List (LabelFields × Tree) → Type 0
EntriesAreCanonical r es = Sorted r es × SignsAreCanonical (at 7 es)

-- one more entry in front
more_to : (r q : ℕ) (m : LabelFields) (v : Tree) (ps : Pairs) (fs : List (LabelFields × Tree)) → q ≡ rank m
    → cond (nat_lt q r) false (cond (nat_eq q 7) (are_canonical_counter_signatures v) true && are_canonical_entries q ps) ≡ true → (are_canonical_entries (rank m) ps ≡ true → EntriesAreCanonical (rank m) fs) → EntriesAreCanonical r ((m, v) ∷ fs)
more_to r q m v ps fs e h k =
    let w = unless_true (nat_lt q r) _ h in
    let rest = k (subst (λ z. are_canonical_entries z ps ≡ true) e (and_right (cond (nat_eq q 7) (are_canonical_counter_signatures v) true) (are_canonical_entries q ps) w.1)) in
    let le : r ≤ q = not_less q r w.0 in
    ((subst (λ z. r ≤ z) e le, rest.0), go (bool_cases (is_at 7 m)) (and_left (cond (nat_eq q 7) (are_canonical_counter_signatures v) true) (are_canonical_entries q ps) w.1) rest.1)
  where
    go : (is_at 7 m ≡ true) ⊎ (is_at 7 m ≡ false) → cond (nat_eq q 7) (are_canonical_counter_signatures v) true ≡ true → SignsAreCanonical (at 7 fs) → SignsAreCanonical (at 7 ((m, v) ∷ fs))
    go (inl t) s g =
        let f : rank m ≡ 7 = at_rank 7 m t (omega arith) (omega arith) in
        subst SignsAreCanonical (sym (ap (λ z. cond z (Some v) (at 7 fs)) t)) (sym (ap (λ z. cond (nat_eq z 7) (are_canonical_counter_signatures v) true) (e ∙ f)) ∙ s)
    go (inr u) s g = subst SignsAreCanonical (sym (ap (λ z. cond z (Some v) (at 7 fs)) u)) g

more_from : (r q : ℕ) (m : LabelFields) (v : Tree) (ps : Pairs) (fs : List (LabelFields × Tree)) → q ≡ rank m → Distinct ((m, v) ∷ fs)
    → (EntriesAreCanonical (rank m) fs → are_canonical_entries (rank m) ps ≡ true) → EntriesAreCanonical r ((m, v) ∷ fs)
    → cond (nat_lt q r) false (cond (nat_eq q 7) (are_canonical_counter_signatures v) true && are_canonical_entries q ps) ≡ true
more_from r q m v ps fs e d k (s, g) =
    let w = go (bool_cases (is_at 7 m)) g in
    let le : r ≤ q = subst (λ z. r ≤ z) (sym e) s.0 in
    let low : nat_lt q r ≡ false = no_less q r le in
    ap (λ z. cond z false (cond (nat_eq q 7) (are_canonical_counter_signatures v) true && are_canonical_entries q ps)) low
    ∙ both_true (cond (nat_eq q 7) (are_canonical_counter_signatures v) true) (are_canonical_entries q ps) w.0 (subst (λ z. are_canonical_entries z ps ≡ true) (sym e) (k (s.1, w.1)))
  where
    go : (is_at 7 m ≡ true) ⊎ (is_at 7 m ≡ false) → SignsAreCanonical (at 7 ((m, v) ∷ fs)) → (cond (nat_eq q 7) (are_canonical_counter_signatures v) true ≡ true) × SignsAreCanonical (at 7 fs)
    go (inl t) g =
        let f : rank m ≡ 7 = at_rank 7 m t (omega arith) (omega arith) in
        let h : are_canonical_counter_signatures v ≡ true = subst SignsAreCanonical (ap (λ z. cond z (Some v) (at 7 fs)) t) g in
        (ap (λ z. cond (nat_eq z 7) (are_canonical_counter_signatures v) true) (e ∙ f) ∙ h, subst SignsAreCanonical (sym (at_none 7 fs m t d.0)) tt)
    go (inr u) g = (other (bool_cases (nat_eq q 7)) u, subst SignsAreCanonical (ap (λ z. cond z (Some v) (at 7 fs)) u) g)
      where
        other : (nat_eq q 7 ≡ true) ⊎ (nat_eq q 7 ≡ false) → is_at 7 m ≡ false → cond (nat_eq q 7) (are_canonical_counter_signatures v) true ≡ true
        other (inl x) u = let h : true ≡ false = sym (rank_at 7 m (sym e ∙ eqb-true q 7 x) (omega arith)) ∙ u in cc
        other (inr y) u = ap (λ z. cond z (are_canonical_counter_signatures v) true) y

entries_step : (l v : Tree) (ps : Pairs) (r : ℕ) (m : Option LabelFields) (o : Option (List (LabelFields × Tree))) (es : List (LabelFields × Tree))
    → ((fs : List (LabelFields × Tree)) (q : ℕ) → o ≡ Some fs → Distinct fs → Decides (are_canonical_entries q ps) (EntriesAreCanonical q fs))
    → label_of l ≡ m → option_and_then (λ m. option_map (λ es. (m, v) ∷ es) o) m ≡ Some es → Distinct es → Decides (are_canonical_entries r (pair_more l v ps)) (EntriesAreCanonical r es)
entries_step l v ps r (Some m) (Some fs) es k a e d =
    let h : (m, v) ∷ fs ≡ es = (let g : Some ((m, v) ∷ fs) ≡ Some es = e in cc) in
    let q : place_of l ≡ rank m = ap place_of (sym (label_back l m a)) in
    let c : Distinct ((m, v) ∷ fs) = subst Distinct (sym h) d in
    let w = k fs (rank m) refl c.1 in
    subst (λ z. Decides (are_canonical_entries r (pair_more l v ps)) (EntriesAreCanonical r z)) h (λ x. more_to r (place_of l) m v ps fs q x w.0, λ y. more_from r (place_of l) m v ps fs q c w.1 y)
entries_step l v ps r m o es k a e d = let h : None ≡ Some es = e in absurd (let f : ⊥ = cc in f)

entries_by : (ps : Pairs) (es : List (LabelFields × Tree)) (r : ℕ) → entries ps ≡ Some es → Distinct es → Decides (are_canonical_entries r ps) (EntriesAreCanonical r es)
entries_by no_pairs es r e d =
    let h : [] ≡ es = (let k : Some [] ≡ Some es = e in cc) in
    subst (λ z. Decides true (EntriesAreCanonical r z)) h (λ _. (tt, tt), λ _. refl)
entries_by (pair_more l v ps) es r e d = entries_step l v ps r (label_of l) (entries ps) es (λ fs q h g. entries_by ps fs q h g) refl e d

-- ---- the map of a header
read_written : (ps : Pairs) (es ws : List (LabelFields × Tree)) → entries ps ≡ Some es → AllLabels ws → tree_of ws ≡ map_tree ps → ws ≡ es
read_written ps es ws e g h =
    let q : pairs (map entry_tree ws) ≡ ps = (let k : map_tree (pairs (map entry_tree ws)) ≡ map_tree ps = h in cc) in
    some_same ws es (sym (entries_again ws g) ∙ ap entries q ∙ e)

header_is : (p : Plain) (ts : Trees) (o : Option Trees) → o ≡ Some ts → twice p.rest ≡ false → option_and_then (λ ts. header_of p ts) o ≡ Some (tree_of (written_entries p (bare_or_list ts)))
header_is p ts o e f = ap (option_and_then (λ ts. header_of p ts)) e ∙ ap (λ z. cond z None (Some (tree_of (written_entries p (bare_or_list ts))))) f

-- the counter signatures are as written
abbrev SignedAs : Option Tree → Trees → Type 0
SignedAs o ts = (SignsAreCanonical o → bare_or_list ts ≡ o) × (bare_or_list ts ≡ o → SignsAreCanonical o)

header_to : (n k : ℕ) (p : Plain) (ss : Signatures) (t : Tree) (ts : Trees) → (a : HasHeader n t (header p ss) k) → signature_trees ss ≡ Some ts → SignedAs (at 7 a.1) ts → is_canonical_header t ≡ true → header_tree (header p ss) ≡ Some t
header_to n k p ss t ts a made s h =
    let ps = a.0 in
    let es = a.1 in
    let once : twice p.rest ≡ false = ap twice a.5.rest ∙ once_only _ (distinct_others es a.4) in
    let w = (entries_by ps es 1 a.3 a.4).0 (sym (ap is_canonical_header a.2) ∙ h) in
    let same : written_entries p (bare_or_list ts) ≡ es =
    ap (written_entries p) (s.0 w.1) ∙ fields_are es p (at 7 es) a.5 ∙ sorted_gathered 7 1 es refl (omega arith) w.0 a.4 in
    header_is p ts (signature_trees ss) made once ∙ ap Some (ap tree_of same ∙ ap map_tree (entries_are ps es a.3) ∙ sym a.2)

header_from : (n k : ℕ) (p : Plain) (ss : Signatures) (t : Tree) (ts : Trees) → (a : HasHeader n t (header p ss) k) → signature_trees ss ≡ Some ts → SignedAs (at 7 a.1) ts → header_tree (header p ss) ≡ Some t → is_canonical_header t ≡ true
header_from n k p ss t ts a made s h =
    let ps = a.0 in
    let es = a.1 in
    let o = bare_or_list ts in
    let rest = a.5.rest in
    let once : twice p.rest ≡ false = ap twice rest ∙ once_only _ (distinct_others es a.4) in
    let core : NoneCore p.rest = subst NoneCore (sym rest) (others_none es) in
    let labels : AllLabels p.rest = subst AllLabels (sym rest) (other_labels es (read_labels ps es a.3)) in
    let tree : tree_of (written_entries p o) ≡ map_tree ps = some_same _ _ (sym (header_is p ts (signature_trees ss) made once) ∙ h ∙ ap Some a.2) in
    let same : written_entries p o ≡ es = read_written ps es (written_entries p o) a.3 (wrote_labels p o core labels) tree in
    let bare : o ≡ at 7 es = sym (wrote_at p o core) ∙ ap (at 7) same in
    let gathered : gather 7 1 es ≡ es = sym (fields_are es p (at 7 es) a.5) ∙ ap (written_entries p) (sym bare) ∙ same in
    ap is_canonical_header a.2 ∙ (entries_by ps es 1 a.3 a.4).1 (subst (Sorted 1) gathered (gather_sorted 7 1 1 es refl (omega arith) (omega arith)), s.1 bare)

-- ---- signatures
signature_to : (n k : ℕ) (p : ProtectedFields) (h : HeaderFields) (c : List ℕ) (t : Tree) → (a : HasSignature n t (signature p h c) k) → Decides (is_canonical_header a.1) (header_tree h ≡ Some a.1)
    → is_canonical_signature t ≡ true → signature_tree (signature p h c) ≡ Some t
signature_to n k (protected None g) h c t a d e = let f : None ≡ Some a.3.0 = a.3.2 in absurd (let g : ⊥ = cc in g)
signature_to n k (protected (Some b) g) h c t a d e =
    let q : b ≡ a.3.0 = some_same b a.3.0 a.3.2 in
    let w : header_tree h ≡ Some a.1 = d.0 (sym (ap is_canonical_signature a.2) ∙ e) in
    ap (option_map (λ t. array (list_of_three (bytes b) t (bytes c)))) w
    ∙ ap (λ z. Some (array (list_of_three z a.1 (bytes c)))) (ap bytes q ∙ sym a.3.1) ∙ ap Some (sym a.2)

second_same : (x y z u v w : Tree) → array (list_of_three x y z) ≡ array (list_of_three u v w) → y ≡ v
second_same x y z u v w e = cc

signature_from : (n k : ℕ) (p : ProtectedFields) (h : HeaderFields) (c : List ℕ) (t : Tree) → (a : HasSignature n t (signature p h c) k) → Decides (is_canonical_header a.1) (header_tree h ≡ Some a.1)
    → signature_tree (signature p h c) ≡ Some t → is_canonical_signature t ≡ true
signature_from n k p h c t a d e =
    let w = signature_parts (shown p) (header_tree h) c t e in
    let q : w.1 ≡ a.1 = second_same _ _ _ _ _ _ (w.4 ∙ a.2) in
    ap is_canonical_signature a.2 ∙ d.1 (w.3 ∙ ap Some q)

-- a list of signatures
pub first_same : (x y : Tree) (us vs : Trees) → one_more x us ≡ one_more y vs → (x ≡ y) × (us ≡ vs)
first_same x y us vs e = ((let f : x ≡ y = cc in f), (let g : us ≡ vs = cc in g))

more_made : (s : SignatureFields) (ss : Signatures) (u : Tree) (us : Trees) → signature_tree s ≡ Some u → signature_trees ss ≡ Some us → signature_trees (signature_more s ss) ≡ Some (one_more u us)
more_made s ss u us a b = ap (option_and_then (λ t. option_map (λ ts. one_more t ts) (signature_trees ss))) a ∙ ap (option_map (λ ts. one_more u ts)) b

signatures_more : (s : SignatureFields) (ss : Signatures) (u : Tree) (us : Trees) → Decides (is_canonical_signature u) (signature_tree s ≡ Some u) → Decides (are_canonical_signatures us) (signature_trees ss ≡ Some us)
    → Decides (is_canonical_signature u && are_canonical_signatures us) (signature_trees (signature_more s ss) ≡ Some (one_more u us))
signatures_more s ss u us d e = (
  λ h. more_made s ss u us (d.0 (and_left (is_canonical_signature u) (are_canonical_signatures us) h)) (e.0 (and_right (is_canonical_signature u) (are_canonical_signatures us) h)),
  λ h.
      let w = trees_parts (signature_tree s) (signature_trees ss) (one_more u us) h in
      let q = first_same w.0 u w.1 us w.4 in
      both_true (is_canonical_signature u) (are_canonical_signatures us) (d.1 (w.2 ∙ ap Some q.0)) (e.1 (w.3 ∙ ap Some q.1)),
)

-- ---- counter signatures: one by itself
no_more : (ss : Signatures) (us : Trees) → ss ≡ no_signatures → signature_trees ss ≡ Some us → us ≡ no_trees
no_more ss us e f = some_same us no_trees (sym f ∙ ap signature_trees e)

bare_same : (ts : Trees) → IsBare ts → are_canonical_counter_signatures (array ts) ≡ is_canonical_signature (array ts)
bare_same ts b = subst (λ z. are_canonical_counter_signatures (array z) ≡ is_canonical_signature (array z)) (sym b.2) refl

signed_bare : (s : SignatureFields) (ss : Signatures) (ts us : Trees) (o : Option Tree) → o ≡ Some (array ts) → IsBare ts → ss ≡ no_signatures
    → Decides (is_canonical_signature (array ts)) (signature_tree s ≡ Some (array ts)) → signature_trees (signature_more s ss) ≡ Some us → SignedAs o us
signed_bare s ss ts us o e b none d f =
    let w = trees_parts (signature_tree s) (signature_trees ss) us f in
    let q : bare_or_list us ≡ Some w.0 = ap bare_or_list (sym w.4 ∙ ap (λ z. one_more w.0 z) (no_more ss w.1 none w.3)) in
    subst (λ z. SignedAs z us) (sym e) (
      λ h. q ∙ sym w.2 ∙ d.0 (sym (bare_same ts b) ∙ h),
      λ h. bare_same ts b ∙ d.1 (w.2 ∙ sym q ∙ h),
    )

-- ---- a list of them
several_same : (xs ys : Trees) → are_canonical_counter_signatures (array (one_more (array xs) ys)) ≡ (is_several (one_more (array xs) ys) && are_canonical_signatures (one_more (array xs) ys))
several_same xs ys = refl

list_same : (ts : Trees) → IsList ts → are_canonical_counter_signatures (array ts) ≡ (is_several ts && are_canonical_signatures ts)
list_same ts l = subst (λ z. are_canonical_counter_signatures (array z) ≡ (is_several z && are_canonical_signatures z)) (sym l.2) (several_same l.0 l.1)

one_of : (s : SignatureFields) (v : Tree) → signature_tree s ≡ Some v → (ts : Trees) × (v ≡ array ts) × IsBare ts
one_of (signature p h c) v e =
    let w = signature_parts (shown p) (header_tree h) c v e in
    (list_of_three (bytes w.0) w.1 (bytes c), sym w.4, (w.0, one_more w.1 (one_more (bytes c) no_trees), refl))

no_both : (ts : Trees) → IsBare ts → IsList ts → ⊥
no_both ts b l = let e : one_more (bytes b.0) b.1 ≡ one_more (array l.0) l.1 = sym b.2 ∙ l.2 in cc

alone_is : (s : SignatureFields) (u : Tree) (vs : Trees) → IsList (one_more u no_trees) → signature_trees (signature_more s no_signatures) ≡ Some vs → SignedAs (Some (array (one_more u no_trees))) vs
alone_is s u vs l f =
    let w = trees_parts (signature_tree s) (Some no_trees) vs f in
    let q : bare_or_list vs ≡ Some w.0 = ap bare_or_list (sym w.4 ∙ ap (λ z. one_more w.0 z) (sym (some_same no_trees w.1 w.3))) in
    let o = one_of s w.0 w.2 in (
      λ h. let g : false ≡ true = sym (list_same (one_more u no_trees) l) ∙ h in absurd (let f : ⊥ = cc in f),
      λ h.
          let g : array o.0 ≡ array (one_more u no_trees) = sym o.1 ∙ some_same _ _ (sym q ∙ h) in
          let k : o.0 ≡ one_more u no_trees = cc in
          absurd (no_both (one_more u no_trees) (subst IsBare k o.2) l),
    )

two_are : (s s2 : SignatureFields) (ss : Signatures) (vs : Trees) → signature_trees (signature_more s (signature_more s2 ss)) ≡ Some vs → bare_or_list vs ≡ Some (array vs)
two_are s s2 ss vs f =
    let w = trees_parts (signature_tree s) (signature_trees (signature_more s2 ss)) vs f in
    let x = trees_parts (signature_tree s2) (signature_trees ss) w.1 w.3 in
    subst (λ z. bare_or_list z ≡ Some (array z)) (ap (λ z. one_more w.0 z) x.4 ∙ w.4) refl

several_is : (s s2 : SignatureFields) (ss : Signatures) (ts vs : Trees) → IsList ts → is_several ts ≡ true
    → Decides (are_canonical_signatures ts) (signature_trees (signature_more s (signature_more s2 ss)) ≡ Some ts) → signature_trees (signature_more s (signature_more s2 ss)) ≡ Some vs → SignedAs (Some (array ts)) vs
several_is s s2 ss ts vs l m d f =
    let test : are_canonical_counter_signatures (array ts) ≡ are_canonical_signatures ts = list_same ts l ∙ ap (λ z. z && are_canonical_signatures ts) m in (
      λ h. two_are s s2 ss vs f ∙ ap (λ z. Some (array z)) (some_same vs ts (sym f ∙ d.0 (sym test ∙ h))),
      λ h.
          let g : array vs ≡ array ts = some_same _ _ (sym (two_are s s2 ss vs f) ∙ h) in
          let k : vs ≡ ts = cc in
          test ∙ d.1 (f ∙ ap Some k),
    )

signed_list : (n k : ℕ) (s : SignatureFields) (ss : Signatures) (u : Tree) (us vs : Trees) → IsList (one_more u us) → HasSignatures n us ss k
    → Decides (is_canonical_signature u) (signature_tree s ≡ Some u) → Decides (are_canonical_signatures us) (signature_trees ss ≡ Some us)
    → signature_trees (signature_more s ss) ≡ Some vs → SignedAs (Some (array (one_more u us))) vs
signed_list n k s no_signatures u us vs l a d e f =
    subst (λ z. SignedAs (Some (array (one_more u z))) vs) (sym a) (alone_is s u vs (subst (λ z. IsList (one_more u z)) a l) f)
signed_list n k s (signature_more s2 ss) u us vs l a d e f =
    several_is s s2 ss (one_more u us) vs l (ap (λ z. is_several (one_more u z)) a.2) (signatures_more s (signature_more s2 ss) u us d e) f

pub not_none : {A : Type 0} (o : Option A) → o ≢ None → (x : A) × (o ≡ Some x)
not_none None n = absurd (n refl)
not_none (Some x) n = (x, refl)

mutual
  pub hdr_canonical : (n : ℕ) (h : HeaderFields) (t : Tree) (k : ℕ) → HasHeader n t h k → Decides (is_canonical_header t) (header_tree h ≡ Some t)
  hdr_canonical n (header p ss) t k a =
      let w = not_none (signature_trees ss) (signed_some n ss (at 7 a.1) k a.6) in
      let s = signed_canonical n ss (at 7 a.1) w.0 k a.6 w.1 in
      (header_to n k p ss t w.0 a w.1 s, header_from n k p ss t w.0 a w.1 s)

  pub sig_canonical : (n : ℕ) (s : SignatureFields) (t : Tree) (k : ℕ) → HasSignature n t s k → Decides (is_canonical_signature t) (signature_tree s ≡ Some t)
  sig_canonical n (signature p h c) t k a =
      let d = hdr_canonical n h a.1 k a.4 in
      (signature_to n k p h c t a d, signature_from n k p h c t a d)

  signed_canonical : (n : ℕ) (ss : Signatures) (o : Option Tree) (ts : Trees) (k : ℕ) → HasSigned n o ss k → signature_trees ss ≡ Some ts → SignedAs o ts
  signed_canonical n no_signatures o ts k a e = subst (λ z. SignedAs z ts) (sym a) (λ _. ap bare_or_list (sym (some_same no_trees ts e)), λ _. tt)
  signed_canonical n (signature_more s ss) o us k (ts, is, inl (bare, rest, one)) e = signed_bare s ss ts us o is bare rest (sig_canonical n s (array ts) k one) e
  signed_canonical n (signature_more s ss) o us k (ts, is, inr (list, more)) e =
      subst (λ z. SignedAs z us) (sym (is ∙ ap (λ z. Some (array z)) more.2))
      (signed_list n k s ss more.0 more.1 us (subst IsList more.2 list) more.4 (sig_canonical n s more.0 k more.3) (sigs_canonical n ss more.1 k more.4) e)

  pub sigs_canonical : (n : ℕ) (ss : Signatures) (ts : Trees) (k : ℕ) → HasSignatures n ts ss k → Decides (are_canonical_signatures ts) (signature_trees ss ≡ Some ts)
  sigs_canonical n no_signatures ts k a = subst (λ z. Decides (are_canonical_signatures z) (Some no_trees ≡ Some z)) (sym a) (λ _. refl, λ _. refl)
  sigs_canonical n (signature_more s ss) ts k a =
      subst (λ z. Decides (are_canonical_signatures z) (signature_trees (signature_more s ss) ≡ Some z)) (sym a.2)
      (signatures_more s ss a.0 a.1 (sig_canonical n s a.0 k a.3) (sigs_canonical n ss a.1 k a.4))
