-- One value has at most one header.
use Rattle.std.proofs.Common.{◌≡◌, ℕ, ◌-◌, inl, inr, List, [], ◌++◌, Option, Some, None, refl, sym, ap, subst, ◌∙◌}
use Rattle.ciborium_value.specs.Tree.{Tree, bytes, array, map as map_tree, Trees, no_trees, one_more}
use Rattle.ciborium.specs.Front.{Reads}
use Rattle.ciborium.specs.Meaning.{meaning}
use Rattle.ciborium.proofs.Once.{once}
use Rattle.coset_headers.specs.Fields.{HeaderFields, header, ProtectedFields, protected, SignatureFields, signature, Signatures, no_signatures, signature_more}
use Rattle.coset_headers.specs.Headers.{entries, at, IsPlain, IsBare, IsList, HasHeader, HasProtected, HasSignature, HasSigned, HasSignatures}
use Rattle.coset_headers.specs.Walks.{Inside}
use Rattle.coset_headers.proofs.Entered.{plain_once}

pub reads_once : (a b u w : List ℕ) (limit : ℕ) (x y : Tree) → Reads a limit x → Reads b limit y → a ++ u ≡ b ++ w → (x ≡ y) × (a ≡ b)
reads_once a b u w limit x y p q e =
    let o = once p.tree q.tree a b u w p.spells q.spells e in
    let m : meaning p.tree ≡ Some x = p.means in
    let n : meaning q.tree ≡ Some y = q.means in
    let t : p.tree ≡ q.tree = o.0 in
    (cc, o.1)

pub readable_once : (n : ℕ) (b : List ℕ) (t s : Tree) → Reads b n t → Reads b n s → t ≡ s
readable_once n b t s p q = (reads_once b b [] [] n t s p q refl).0

bare_is_no_list : (ts : Trees) → IsBare ts → IsList ts → ⊥
bare_is_no_list ts a b = let e : one_more (bytes a.0) a.1 ≡ one_more (array b.0) b.1 = sym a.2 ∙ b.2 in cc

inner_once : (n : ℕ) (h g : HeaderFields) (b : List ℕ) (k : ℕ) → ((t : Tree) → HasHeader n t h k → HasHeader n t g k → h ≡ g) → Inside n h b k → Inside n g b k → h ≡ g
inner_once n h g b k once (inl x) (inl y) = x.1 ∙ sym y.1
inner_once n h g b k once (inl x) (inr y) = absurd (y.0 x.0)
inner_once n h g b k once (inr x) (inl y) = absurd (x.0 y.0)
inner_once n h g b k once (inr (x, (v, r, s))) (inr (y, (w, u, z))) = once v s (subst (λ i. HasHeader n i g k) (readable_once n b w v u r) z)

mutual
  pub hdr_once : (n : ℕ) (h g : HeaderFields) (t : Tree) (k : ℕ) → HasHeader n t h k → HasHeader n t g k → h ≡ g
  hdr_once n (header p ss) (header q us) t k a b =
      let maps : map_tree a.0 ≡ map_tree b.0 = sym a.2 ∙ b.2 in
      let pairs : a.0 ≡ b.0 = cc in
      let some : Some a.1 ≡ Some b.1 = sym a.3 ∙ ap entries pairs ∙ b.3 in
      let same : b.1 ≡ a.1 = cc in
      let plain = plain_once a.1 p q a.5 (subst (λ z. IsPlain z q) same b.5) in
      let signs = signed_once n ss us (at 7 a.1) k a.6 (subst (λ z. HasSigned n (at 7 z) us k) same b.6) in
      λ i. header (plain i) (signs i)

  pub prot_once : (n : ℕ) (p q : ProtectedFields) (t : Tree) (k : ℕ) → HasProtected n t p k → HasProtected n t q k → p ≡ q
  prot_once n (protected o h) (protected u g) t k a b =
      let whole : bytes a.0 ≡ bytes b.0 = sym a.1 ∙ b.1 in
      let same : b.0 ≡ a.0 = cc in
      let kept : o ≡ u = a.2 ∙ ap Some (sym same) ∙ sym b.2 in
      let inside = subst (λ z. Inside n g z (k - 1)) same b.4 in
      let heads = inner_once n h g a.0 (k - 1) (λ t x y. hdr_once n h g t (k - 1) x y) a.4 inside in
      λ i. protected (kept i) (heads i)

  pub sig_once : (n : ℕ) (s u : SignatureFields) (t : Tree) (k : ℕ) → HasSignature n t s k → HasSignature n t u k → s ≡ u
  sig_once n (signature p h c) (signature q g d) t k a b =
      let e : array (one_more a.0 (one_more a.1 (one_more (bytes c) no_trees))) ≡ array (one_more b.0 (one_more b.1 (one_more (bytes d) no_trees))) = sym a.2 ∙ b.2 in
      let e0 : b.0 ≡ a.0 = cc in
      let e1 : b.1 ≡ a.1 = cc in
      let e2 : c ≡ d = cc in
      let prots = prot_once n p q a.0 k a.3 (subst (λ z. HasProtected n z q k) e0 b.3) in
      let heads = hdr_once n h g a.1 k a.4 (subst (λ z. HasHeader n z g k) e1 b.4) in
      λ i. signature (prots i) (heads i) (e2 i)

  pub signed_once : (n : ℕ) (ss us : Signatures) (o : Option Tree) (k : ℕ) → HasSigned n o ss k → HasSigned n o us k → ss ≡ us
  signed_once n no_signatures no_signatures o k a b = refl
  signed_once n no_signatures (signature_more u us) o k a b = let e : None ≡ Some (array b.0) = sym a ∙ b.1 in cc
  signed_once n (signature_more s ss) no_signatures o k a b = let e : Some (array a.0) ≡ None = sym a.1 ∙ b in cc
  signed_once n (signature_more s ss) (signature_more u us) o k (ts, is, inl (bare, rest, one)) (vs, there, inl (bare', rest', one')) =
      let e : Some (array ts) ≡ Some (array vs) = sym is ∙ there in
      let e0 : array vs ≡ array ts = cc in
      let same = sig_once n s u (array ts) k one (subst (λ z. HasSignature n z u k) e0 one') in
      let tails : ss ≡ us = rest ∙ sym rest' in
      λ i. signature_more (same i) (tails i)
  signed_once n (signature_more s ss) (signature_more u us) o k (ts, is, inl (bare, rest, one)) (vs, there, inr (list, more)) =
      let e : Some (array ts) ≡ Some (array vs) = sym is ∙ there in
      let e0 : vs ≡ ts = cc in
      absurd (bare_is_no_list ts bare (subst IsList e0 list))
  signed_once n (signature_more s ss) (signature_more u us) o k (ts, is, inr (list, more)) (vs, there, inl (bare, rest, one)) =
      let e : Some (array ts) ≡ Some (array vs) = sym is ∙ there in
      let e0 : vs ≡ ts = cc in
      absurd (bare_is_no_list ts (subst IsBare e0 bare) list)
  signed_once n (signature_more s ss) (signature_more u us) o k (ts, is, inr (list, more)) (vs, there, inr (list', more')) =
      let e : Some (array ts) ≡ Some (array vs) = sym is ∙ there in
      let e0 : vs ≡ ts = cc in
      let w = subst (λ z. (x : Tree) × (xs : Trees) × (z ≡ one_more x xs) × HasSignature n x u k × HasSignatures n xs us k) e0 more' in
      let f : one_more more.0 more.1 ≡ one_more w.0 w.1 = sym more.2 ∙ w.2 in
      let f0 : w.0 ≡ more.0 = cc in
      let f1 : w.1 ≡ more.1 = cc in
      let same = sig_once n s u more.0 k more.3 (subst (λ z. HasSignature n z u k) f0 w.3) in
      let tails = sigs_once n ss us more.1 k more.4 (subst (λ z. HasSignatures n z us k) f1 w.4) in
      λ i. signature_more (same i) (tails i)

  pub sigs_once : (n : ℕ) (ss us : Signatures) (ts : Trees) (k : ℕ) → HasSignatures n ts ss k → HasSignatures n ts us k → ss ≡ us
  sigs_once n no_signatures no_signatures ts k a b = refl
  sigs_once n no_signatures (signature_more u us) ts k a b = let e : no_trees ≡ one_more b.0 b.1 = sym a ∙ b.2 in cc
  sigs_once n (signature_more s ss) no_signatures ts k a b = let e : one_more a.0 a.1 ≡ no_trees = sym a.2 ∙ b in cc
  sigs_once n (signature_more s ss) (signature_more u us) ts k a b =
      let f : one_more a.0 a.1 ≡ one_more b.0 b.1 = sym a.2 ∙ b.2 in
      let f0 : b.0 ≡ a.0 = cc in
      let f1 : b.1 ≡ a.1 = cc in
      let same = sig_once n s u a.0 k a.3 (subst (λ z. HasSignature n z u k) f0 b.3) in
      let tails = sigs_once n ss us a.1 k a.4 (subst (λ z. HasSignatures n z us k) f1 b.4) in
      λ i. signature_more (same i) (tails i)
