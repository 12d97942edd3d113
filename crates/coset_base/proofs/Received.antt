-- What is as received is written straight from its fields as what is written of it; and what was
-- read is as received.
use Rattle.std.proofs.Common.{◌≡◌, ℕ, zero, suc, ◌<◌, inl, inr, List, [], ◌∷◌, length, get_or, true, cond, not, Option, Some, None, option_map, option_and_then, refl, sym, ap, ◌∙◌, arith}
use Rattle.std.proofs.lemmas.Bool.{and_parts, and_from, not-true}
use Rattle.ciborium_value.specs.Encoding.{enc}
use Rattle.ciborium_value.specs.Tree.{Tree, bytes, array, Trees, one_more}
use Rattle.coset_headers.specs.Fields.{HeaderFields, header, ProtectedFields, protected, SignatureFields, signature, Signatures, no_signatures, signature_more}
use Rattle.coset_headers.specs.Headers.{at, others, list_of_three, HasHeader, HasProtected, HasSignature, HasSigned, HasSignatures}
use Rattle.coset_headers.specs.Received.{is_received_protected, is_received_header, is_received_signature, are_received_signatures}
use Rattle.coset_headers.specs.View.{signature_view, signatures_view}
use Rattle.coset_headers.specs.declared.header.CoseSignature.{CoseSignature}
use Rattle.coset_headers.specs.Written.{tree_of, written_entries, bare_or_list, header_of, twice, header_tree, shown, signature_tree, signature_trees}
use Rattle.coset_headers.proofs.Writable.{distinct_others}
use Rattle.coset_headers.proofs.Written.{once_only}
use Rattle.coset_base.specs.Put.{header_put, protected_put, signature_put, signatures_put}

-- ---- what is as received is written so
pub prot_shown : (p : ProtectedFields) → is_received_protected p ≡ true → (b : List ℕ) × (shown p ≡ Some b) × (protected_put p ≡ bytes b)
prot_shown (protected (Some b) h) r = (b, refl, refl)
prot_shown (protected None h) r = ([], ap (λ z. cond z (Some []) (option_map enc (header_tree h))) r, refl)

mutual
  pub hdr_written : (h : HeaderFields) → is_received_header h ≡ true → header_tree h ≡ Some (header_put h)
  hdr_written (header p ss) r =
      let w = and_parts _ _ r in
      ap (option_and_then (λ ts. header_of p ts)) (sigs_written ss w.1)
      ∙ ap (λ z. cond z None (Some (tree_of (written_entries p (bare_or_list (signatures_put ss)))))) (not-true (twice p.rest) w.0)

  pub sig_written : (s : SignatureFields) → is_received_signature s ≡ true → signature_tree s ≡ Some (signature_put s)
  sig_written (signature p h c) r =
      let q = and_parts _ _ r in
      let w = prot_shown p q.0 in
      ap (option_and_then (λ b. option_map (λ t. array (list_of_three (bytes b) t (bytes c))) (header_tree h))) w.1
      ∙ ap (option_map (λ t. array (list_of_three (bytes w.0) t (bytes c)))) (hdr_written h q.1)
      ∙ ap (λ z. Some (array (list_of_three z (header_put h) (bytes c)))) (sym w.2)

  pub sigs_written : (ss : Signatures) → are_received_signatures ss ≡ true → signature_trees ss ≡ Some (signatures_put ss)
  sigs_written no_signatures r = refl
  sigs_written (signature_more s ss) r =
      let q = and_parts _ _ r in
      ap (option_and_then (λ t. option_map (λ ts. one_more t ts) (signature_trees ss))) (sig_written s q.0)
      ∙ ap (option_map (λ ts. one_more (signature_put s) ts)) (sigs_written ss q.1)

-- ---- what was read is as received
pub prot_received : (n : ℕ) (p : ProtectedFields) (t : Tree) (k : ℕ) → HasProtected n t p k → is_received_protected p ≡ true
prot_received n (protected None h) t k a = let e : None ≡ Some a.0 = a.2 in absurd (let f : ⊥ = cc in f)
prot_received n (protected (Some b) h) t k a = refl

mutual
  pub hdr_received : (n : ℕ) (h : HeaderFields) (t : Tree) (k : ℕ) → HasHeader n t h k → is_received_header h ≡ true
  hdr_received n (header p ss) t k a = and_from _ _ (ap not (ap twice a.5.rest ∙ once_only (others a.1) (distinct_others a.1 a.4))) (signed_received n ss (at 7 a.1) k a.6)

  pub sig_received : (n : ℕ) (s : SignatureFields) (t : Tree) (k : ℕ) → HasSignature n t s k → is_received_signature s ≡ true
  sig_received n (signature p h c) t k a = and_from _ _ (prot_received n p a.0 k a.3) (hdr_received n h a.1 k a.4)

  signed_received : (n : ℕ) (ss : Signatures) (o : Option Tree) (k : ℕ) → HasSigned n o ss k → are_received_signatures ss ≡ true
  signed_received n no_signatures o k a = refl
  signed_received n (signature_more s ss) o k (ts, is, inl (bare, rest, one)) = and_from _ _ (sig_received n s (array ts) k one) (ap are_received_signatures rest)
  signed_received n (signature_more s ss) o k (ts, is, inr (list, more)) = and_from _ _ (sig_received n s more.0 k more.3) (sigs_received n ss more.1 k more.4)

  sigs_received : (n : ℕ) (ss : Signatures) (ts : Trees) (k : ℕ) → HasSignatures n ts ss k → are_received_signatures ss ≡ true
  sigs_received n no_signatures ts k a = refl
  sigs_received n (signature_more s ss) ts k a = and_from _ _ (sig_received n s a.0 k a.3) (sigs_received n ss a.1 k a.4)

pub prot_put : (n : ℕ) (p : ProtectedFields) (t : Tree) (k : ℕ) → HasProtected n t p k → protected_put p ≡ t
prot_put n (protected None h) t k a = let e : None ≡ Some a.0 = a.2 in absurd (let f : ⊥ = cc in f)
prot_put n (protected (Some b) h) t k a = let e : b ≡ a.0 = (let m : Some b ≡ Some a.0 = a.2 in cc) in ap bytes e ∙ sym a.1

-- ---- each signature of a list that is as received
pub received_at : (ss : List CoseSignature) (i : ℕ) (d : CoseSignature) → i < length ss → are_received_signatures (signatures_view ss) ≡ true → is_received_signature (signature_view (get_or ss i d)) ≡ true
received_at [] i d p r = absurd (omega arith)
received_at (s ∷ ss) zero d p r = (and_parts _ _ r).0
received_at (s ∷ ss) (suc i) d p r = received_at ss i d (omega arith) (and_parts _ _ r).1
