-- What is written of a header that was read has its fields again.
use Rattle.std.proofs.Common.{◌≡◌, ℕ, inl, inr, List, map, Bool, true, false, cond, Option, Some, None, option_map, option_and_then, refl, sym, ap, subst, ◌∙◌}
use Rattle.ciborium_value.specs.Tree.{Tree, bytes, array, Trees, no_trees, one_more}
use Rattle.ciborium_value.specs.View.{pairs}
use Rattle.coset_headers.specs.Fields.{Plain, HeaderFields, header, ProtectedFields, protected, SignatureFields, signature, Signatures, no_signatures, signature_more}
use Rattle.coset_headers.specs.Headers.{at, Distinct, IsBare, list_of_three, HasHeader, HasProtected, HasSignature, HasSigned, HasSignatures}
use Rattle.coset_headers.specs.Written.{twice, entry_tree, tree_of, written_entries, bare_or_list, header_of, header_tree, shown, signature_tree, signature_trees}
use Rattle.coset_headers.proofs.Writable.{distinct_others}
use Rattle.coset_headers.proofs.Wrote.{NoneCore, others_none, AllLabels, read_labels, other_labels, entries_again, wrote_at, wrote_distinct, wrote_labels, wrote_plain}

-- ---- what was written, by its parts
pub header_parts : (p : Plain) (o : Option Trees) (u : Tree) → option_and_then (λ ts. header_of p ts) o ≡ Some u → (ts : Trees) × (o ≡ Some ts) × (tree_of (written_entries p (bare_or_list ts)) ≡ u)
header_parts p None u e = let h : None ≡ Some u = e in absurd (let f : ⊥ = cc in f)
header_parts p (Some ts) u e = go (twice p.rest) e
  where
    go : (b : Bool) → cond b None (Some (tree_of (written_entries p (bare_or_list ts)))) ≡ Some u → (us : Trees) × (Some ts ≡ Some us) × (tree_of (written_entries p (bare_or_list us)) ≡ u)
    go true e = let h : None ≡ Some u = e in absurd (let f : ⊥ = cc in f)
    go false e = (ts, refl, (let h : Some (tree_of (written_entries p (bare_or_list ts))) ≡ Some u = e in cc))

pub signature_parts : (o : Option (List ℕ)) (q : Option Tree) (c : List ℕ) (u : Tree) → option_and_then (λ b. option_map (λ t. array (list_of_three (bytes b) t (bytes c))) q) o ≡ Some u
    → (b : List ℕ) × (v : Tree) × (o ≡ Some b) × (q ≡ Some v) × (array (list_of_three (bytes b) v (bytes c)) ≡ u)
signature_parts (Some b) (Some v) c u e = (b, v, refl, refl, (let h : Some (array (list_of_three (bytes b) v (bytes c))) ≡ Some u = e in cc))
signature_parts o q c u e = let h : None ≡ Some u = e in absurd (let f : ⊥ = cc in f)

pub trees_parts : (o : Option Tree) (q : Option Trees) (us : Trees) → option_and_then (λ t. option_map (λ ts. one_more t ts) q) o ≡ Some us
    → (v : Tree) × (vs : Trees) × (o ≡ Some v) × (q ≡ Some vs) × (one_more v vs ≡ us)
trees_parts (Some v) (Some vs) us e = (v, vs, refl, refl, (let h : Some (one_more v vs) ≡ Some us = e in cc))
trees_parts o q us e = let h : None ≡ Some us = e in absurd (let f : ⊥ = cc in f)

-- ---- a protected header shows the bytes that it was read of
pub prot_again : (n : ℕ) (p : ProtectedFields) (t : Tree) (k : ℕ) (b : List ℕ) → HasProtected n t p k → shown p ≡ Some b → t ≡ bytes b
prot_again n (protected None h) t k b a e = let f : None ≡ Some a.0 = a.2 in cc
prot_again n (protected (Some c) h) t k b a e =
    let f : Some c ≡ Some a.0 = a.2 in
    let g : Some c ≡ Some b = e in
    let s : a.0 ≡ b = cc in
    a.1 ∙ ap bytes s

-- ---- counter signatures
bare_one : (n : ℕ) (s : SignatureFields) (v : Tree) (k : ℕ) → HasSignature n v s k → (ts : Trees) × (v ≡ array ts) × IsBare ts
bare_one n (signature (protected o h) g c) v k a = (list_of_three a.0 a.1 (bytes c), a.2, (a.3.0, one_more a.1 (one_more (bytes c) no_trees), ap (λ z. one_more z (one_more a.1 (one_more (bytes c) no_trees))) a.3.1))

signed_bare : (n : ℕ) (s : SignatureFields) (v : Tree) (k : ℕ) → HasSignature n v s k → HasSigned n (Some v) (signature_more s no_signatures) k
signed_bare n s v k a = let b = bare_one n s v k a in (b.0, ap Some b.1, inl (b.2, refl, subst (λ z. HasSignature n z s k) b.1 a))

pub signed_made : (n : ℕ) (s : SignatureFields) (ss : Signatures) (v : Tree) (vs : Trees) (k : ℕ) → HasSignature n v s k → HasSignatures n vs ss k → HasSigned n (bare_or_list (one_more v vs)) (signature_more s ss) k
signed_made n s no_signatures v no_trees k a b = signed_bare n s v k a
signed_made n s no_signatures v (one_more x xs) k a b = let e : one_more x xs ≡ no_trees = b in absurd (let f : ⊥ = cc in f)
signed_made n s (signature_more u us) v no_trees k a b = let e : no_trees ≡ one_more b.0 b.1 = b.2 in absurd (let f : ⊥ = cc in f)
signed_made n s (signature_more u us) v (one_more x xs) k a b =
    let w = bare_one n s v k a in
    (one_more v (one_more x xs), refl, inr ((w.0, one_more x xs, ap (λ z. one_more z (one_more x xs)) w.1), (v, one_more x xs, refl, a, b)))

none_left : (n : ℕ) (ss : Signatures) (vs : Trees) (k : ℕ) → ss ≡ no_signatures → signature_trees ss ≡ Some vs → HasSignatures n vs ss k
none_left n ss vs k e f =
    let g : Some no_trees ≡ Some vs = sym (ap signature_trees e) ∙ f in
    let h : vs ≡ no_trees = cc in
    subst (λ z. HasSignatures n vs z k) (sym e) h

header_made : (n : ℕ) (p : Plain) (ss : Signatures) (t u : Tree) (ts : Trees) (k : ℕ) → HasHeader n t (header p ss) k → HasSigned n (bare_or_list ts) ss k → tree_of (written_entries p (bare_or_list ts)) ≡ u → HasHeader n u (header p ss) k
header_made n p ss t u ts k a s e =
    let es = a.1 in
    let o = bare_or_list ts in
    let rest = a.5.rest in
    let core : NoneCore p.rest = subst NoneCore (sym rest) (others_none es) in
    let labels : AllLabels p.rest = subst AllLabels (sym rest) (other_labels es (read_labels a.0 es a.3)) in (
      pairs (map entry_tree (written_entries p o)),
      written_entries p o,
      sym e,
      entries_again (written_entries p o) (wrote_labels p o core labels),
      wrote_distinct p o core (subst Distinct (sym rest) (distinct_others es a.4)),
      wrote_plain p o core es a.5,
      subst (λ z. HasSigned n z ss k) (sym (wrote_at p o core)) s,
    )

mutual
  pub hdr_again : (n : ℕ) (h : HeaderFields) (t u : Tree) (k : ℕ) → HasHeader n t h k → header_tree h ≡ Some u → HasHeader n u h k
  hdr_again n (header p ss) t u k a e =
      let w = header_parts p (signature_trees ss) u e in
      header_made n p ss t u w.0 k a (signed_again n ss (at 7 a.1) w.0 k a.6 w.1) w.2

  pub sig_again : (n : ℕ) (s : SignatureFields) (t u : Tree) (k : ℕ) → HasSignature n t s k → signature_tree s ≡ Some u → HasSignature n u s k
  sig_again n (signature p h c) t u k a e =
      let w = signature_parts (shown p) (header_tree h) c u e in
      (bytes w.0, w.1, sym w.4, subst (λ z. HasProtected n z p k) (prot_again n p a.0 k w.0 a.3 w.2) a.3, hdr_again n h a.1 w.1 k a.4 w.3)

  signed_again : (n : ℕ) (ss : Signatures) (o : Option Tree) (ts : Trees) (k : ℕ) → HasSigned n o ss k → signature_trees ss ≡ Some ts → HasSigned n (bare_or_list ts) ss k
  signed_again n no_signatures o ts k a e = let h : no_trees ≡ ts = (let f : Some no_trees ≡ Some ts = e in cc) in ap bare_or_list (sym h)
  signed_again n (signature_more s ss) o us k (ts, is, inl (bare, rest, one)) e =
      let w = trees_parts (signature_tree s) (signature_trees ss) us e in
      subst (λ z. HasSigned n (bare_or_list z) (signature_more s ss) k) w.4 (signed_made n s ss w.0 w.1 k (sig_again n s (array ts) w.0 k one w.2) (none_left n ss w.1 k rest w.3))
  signed_again n (signature_more s ss) o us k (ts, is, inr (list, more)) e =
      let w = trees_parts (signature_tree s) (signature_trees ss) us e in
      subst (λ z. HasSigned n (bare_or_list z) (signature_more s ss) k) w.4 (signed_made n s ss w.0 w.1 k (sig_again n s more.0 w.0 k more.3 w.2) (sigs_again n ss more.1 w.1 k more.4 w.3))

  sigs_again : (n : ℕ) (ss : Signatures) (ts us : Trees) (k : ℕ) → HasSignatures n ts ss k → signature_trees ss ≡ Some us → HasSignatures n us ss k
  sigs_again n no_signatures ts us k a e = let h : no_trees ≡ us = (let f : Some no_trees ≡ Some us = e in cc) in sym h
  sigs_again n (signature_more s ss) ts us k a e =
      let w = trees_parts (signature_tree s) (signature_trees ss) us e in
      (w.0, w.1, sym w.4, sig_again n s a.0 w.0 k a.3 w.2, sigs_again n ss a.1 w.1 k a.4 w.3)
