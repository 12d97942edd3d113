-- What was read can be written.
use Rattle.std.proofs.Common.{◌≡◌, ◌≢◌, ℕ, inl, inr, List, false, cond, Option, Some, None, option_map, option_and_then, refl, sym, ap, subst, ◌∙◌}
use Rattle.ciborium_value.specs.Tree.{Tree, array, Trees, no_trees}
use Rattle.coset_labels.specs.Facts.Entries as facts
use Rattle.coset_labels.specs.Fields.{LabelFields}
use Rattle.coset_headers.specs.Fields.{Plain, HeaderFields, header, ProtectedFields, protected, SignatureFields, signature, Signatures, no_signatures, signature_more}
use Rattle.coset_headers.specs.Headers.{is_core, at, Distinct, others, HasHeader, HasProtected, HasSignature, HasSigned, HasSignatures}
use Rattle.coset_headers.specs.Written.{twice, tree_of, written_entries, bare_or_list, header_of, header_tree, shown, signature_tree, signature_trees}
use Rattle.coset_headers.proofs.Written.{once_only}

pub some_is : {A : Type 0} (x : A) → Some x ≢ None
some_is x e = let h : Some x ≡ None = e in cc

pub map_some : {A B : Type 0} (f : A → B) (o : Option A) → o ≢ None → option_map f o ≢ None
map_some f None n = absurd (n refl)
map_some f (Some x) n = some_is (f x)

pub and_some : {A B : Type 0} (f : A → Option B) (o : Option A) → o ≢ None → ((x : A) → f x ≢ None) → option_and_then f o ≢ None
and_some f None n g = absurd (n refl)
and_some f (Some x) n g = g x

-- ---- the entries of `rest` are distinct, since all are
pub distinct_others : (es : List (LabelFields × Tree)) → Distinct es → Distinct (others es)
distinct_others = facts.distinct_others is_core

header_some : (p : Plain) (ts : Trees) → twice p.rest ≡ false → header_of p ts ≢ None
header_some p ts e q = some_is (tree_of (written_entries p (bare_or_list ts))) (sym (ap (λ b. cond b None (Some (tree_of (written_entries p (bare_or_list ts))))) e) ∙ q)

trees_some : (s : SignatureFields) (ss : Signatures) → signature_tree s ≢ None → signature_trees ss ≢ None → signature_trees (signature_more s ss) ≢ None
trees_some s ss m n = and_some _ (signature_tree s) m (λ t. map_some _ (signature_trees ss) n)

no_trees_some : (ss : Signatures) → ss ≡ no_signatures → signature_trees ss ≢ None
no_trees_some ss e = subst (λ z. signature_trees z ≢ None) (sym e) (some_is no_trees)

-- ---- headers, protected headers and signatures
pub prot_some : (n : ℕ) (p : ProtectedFields) (t : Tree) (k : ℕ) → HasProtected n t p k → shown p ≢ None
prot_some n (protected None h) t k a = let e : None ≡ Some a.0 = a.2 in cc
prot_some n (protected (Some b) h) t k a = some_is b

mutual
  pub hdr_some : (n : ℕ) (h : HeaderFields) (t : Tree) (k : ℕ) → HasHeader n t h k → header_tree h ≢ None
  hdr_some n (header p ss) t k a =
      and_some (λ ts. header_of p ts) (signature_trees ss) (signed_some n ss (at 7 a.1) k a.6)
      (λ ts. header_some p ts (ap twice a.5.rest ∙ once_only (others a.1) (distinct_others a.1 a.4)))

  pub sig_some : (n : ℕ) (s : SignatureFields) (t : Tree) (k : ℕ) → HasSignature n t s k → signature_tree s ≢ None
  sig_some n (signature p h c) t k a = and_some _ (shown p) (prot_some n p a.0 k a.3) (λ b. map_some _ (header_tree h) (hdr_some n h a.1 k a.4))

  pub signed_some : (n : ℕ) (ss : Signatures) (o : Option Tree) (k : ℕ) → HasSigned n o ss k → signature_trees ss ≢ None
  signed_some n no_signatures o k a = some_is no_trees
  signed_some n (signature_more s ss) o k (ts, is, inl (bare, rest, one)) = trees_some s ss (sig_some n s (array ts) k one) (no_trees_some ss rest)
  signed_some n (signature_more s ss) o k (ts, is, inr (list, more)) = trees_some s ss (sig_some n s more.0 k more.3) (sigs_some n ss more.1 k more.4)

  sigs_some : (n : ℕ) (ss : Signatures) (ts : Trees) (k : ℕ) → HasSignatures n ts ss k → signature_trees ss ≢ None
  sigs_some n no_signatures ts k a = some_is no_trees
  sigs_some n (signature_more s ss) ts k a = trees_some s ss (sig_some n s a.0 k a.3) (sigs_some n ss a.1 k a.4)
