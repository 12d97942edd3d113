-- What one step of the reader shows, over plain variables.
use Rattle.std.proofs.Common.{◌≡◌, ◌≢◌, ℕ, ◌<◌, ◌≤◌, inl, inr, List, [], ◌∷◌, ◌++◌, map, length, false, Option, Some, refl, sym, ap, subst, ◌∙◌, arith}
use Rattle.std.proofs.lemmas.List.{length-map}
use Rattle.cose_iana.specs.Algorithms.{is_algorithm}
use Rattle.cose_iana.specs.Registry.{is_private_use}
use Rattle.ciborium_value.specs.Tree.{Tree, bytes, array, simple, Trees, no_trees, one_more, tree_count, is_bytes}
use Rattle.ciborium_value.specs.View.{trees, view, views}
use Rattle.ciborium_value.specs.declared.value.Value.{Value}
use Rattle.coset_labels.specs.Facts.Walks.{at_fault, passed_on, views_count}
use Rattle.coset_labels.specs.Faults.{CoseFault, OrMemory, fault_of, unexpected}
use Rattle.ciborium_value.specs.Kinds.{is_array}
use Rattle.coset_labels.specs.Labels.{WrongNamed}
use Rattle.coset_labels.specs.declared.error.CoseError.{CoseError}
use Rattle.coset_headers.specs.Headers.{list_of_three}
use Rattle.coset_kdf.specs.Contexts.{HasPublic, maybe_bytes, four_and}
use Rattle.coset_kdf.specs.Fields.{PublicFields}
use Rattle.coset_kdf.specs.Steps.{HasTwo, WrongTwo, Popped, WrongPopped}
use Rattle.coset_kdf.specs.Wrong.{WrongNonce, WrongParty, no_array, not_three, wrong_identity, wrong_nonce, wrong_other, WrongPublic, no_list, not_two_or_three, wrong_length, in_protected, no_bytes, WrongContext, not_list, too_few, wrong_algorithm, in_party_u, in_party_v, in_public, in_private}

-- ---- what a party brings
pub party_kind : (t : Tree) (e : CoseError) → (fault_of e ≡ unexpected) × (is_array t ≡ false) → WrongParty t (fault_of e)
party_kind t e p = subst (WrongParty t) (sym p.0) (no_array t p.1)

pub party_count : (t : Tree) (vs : List Value) → t ≡ array (views vs) → length vs ≢ 3 → WrongParty t unexpected
party_count t vs q n = subst (λ z. WrongParty z unexpected) (sym q) (not_three (views vs) (λ e. n (sym (views_count vs) ∙ e)))

module _ (t a b c : Tree) (ts : Trees) (e : CoseError) (q : t ≡ array ts) (r : ts ≡ list_of_three a b c) where
  whole : t ≡ array (list_of_three a b c)
  whole = q ∙ ap array r

  pub party_other : (fault_of e ≡ unexpected) × (is_bytes c ≡ false) × (c ≢ simple 22) → WrongParty t (fault_of e)
  party_other p = subst (WrongParty t) (sym p.0) (subst (λ z. WrongParty z unexpected) (sym whole) (wrong_other a b c (p.1, p.2)))

  pub party_nonce : WrongNonce b (fault_of e) → WrongParty t (fault_of e)
  party_nonce w = subst (λ z. WrongParty z (fault_of e)) (sym whole) (wrong_nonce a b c (fault_of e) w)

  pub party_identity : (fault_of e ≡ unexpected) × (is_bytes a ≡ false) × (a ≢ simple 22) → WrongParty t (fault_of e)
  party_identity p = subst (WrongParty t) (sym p.0) (subst (λ z. WrongParty z unexpected) (sym whole) (wrong_identity a b c (p.1, p.2)))

-- ---- what both parties know
pub public_kind : (n : ℕ) (t : Tree) (k : ℕ) (e : CoseError) → (fault_of e ≡ unexpected) × (is_array t ≡ false) → OrMemory (WrongPublic n t k) e
public_kind n t k e p = at_fault (WrongPublic n t k) unexpected e p.0 (no_list t k p.1)

pub public_count : (n : ℕ) (t : Tree) (k : ℕ) (vs : List Value) → t ≡ array (views vs) → length vs ≢ 2 → length vs ≢ 3 → WrongPublic n t k unexpected
public_count n t k vs q f g = subst (λ z. WrongPublic n z k unexpected) (sym q) (not_two_or_three (views vs) k (λ e. f (sym (views_count vs) ∙ e)) (λ e. g (sym (views_count vs) ∙ e)))

pub public_other : (n : ℕ) (t a b c : Tree) (ts : Trees) (k : ℕ) (e : CoseError) → t ≡ array ts → ts ≡ list_of_three a b c → (fault_of e ≡ unexpected) × (is_bytes c ≡ false) → OrMemory (WrongPublic n t k) e
public_other n t a b c ts k e q r p = at_fault (WrongPublic n t k) unexpected e p.0 (subst (λ z. WrongPublic n z k unexpected) (sym (q ∙ ap array r)) (no_bytes a b c k p.1))

two_wrong : (a b : Tree) (ts : Trees) (e : CoseFault) → tree_count ts < 2 → WrongTwo a b e → WrongPublic 256 (array (one_more a (one_more b ts))) 16 e
two_wrong a b ts e l (inl w) = in_protected a b ts 16 e l w
two_wrong a b ts e l (inr w) = wrong_length a b ts 16 e l w

pub public_wrong : (t a b : Tree) (ts us : Trees) (e : CoseError) → t ≡ array ts → ts ≡ one_more a (one_more b us) → tree_count us < 2 → OrMemory (WrongTwo a b) e → OrMemory (WrongPublic 256 t 16) e
public_wrong t a b ts us e q r l w = passed_on (WrongTwo a b) (WrongPublic 256 t 16) e (λ x. subst (λ z. WrongPublic 256 z 16 (fault_of e)) (sym (q ∙ ap array r)) (two_wrong a b us (fault_of e) l x)) w

pub public_has : (t a b : Tree) (ts : Trees) (o : Option (List ℕ)) (s : PublicFields) → t ≡ array ts → ts ≡ trees (a ∷ b ∷ maybe_bytes o) → HasTwo a b o s → HasPublic 256 t s 16
public_has t a b ts o s q r w = (a, b, q ∙ ap array r ∙ ap (λ z. array (trees (a ∷ b ∷ maybe_bytes z))) (sym w.other), w.length, w.protected_header)

pub third_bytes : (a b c : Tree) (ts : Trees) (d : List ℕ) → ts ≡ list_of_three a b c → c ≡ bytes d → ts ≡ trees (a ∷ b ∷ maybe_bytes (Some d))
third_bytes a b c ts d r q = r ∙ ap (list_of_three a b) q

-- ---- a context
pub context_kind : (n : ℕ) (t : Tree) (k : ℕ) (e : CoseError) → (fault_of e ≡ unexpected) × (is_array t ≡ false) → OrMemory (WrongContext n t k) e
context_kind n t k e p = at_fault (WrongContext n t k) unexpected e p.0 (not_list t k p.1)

pub context_few : (n : ℕ) (t : Tree) (k : ℕ) (vs us : List Value) (ps : List (List ℕ)) → t ≡ array (views vs) → Popped (map view vs) (map view us) ps → length us ≢ 4 → WrongContext n t k unexpected
context_few n t k vs us ps q w f =
    let l = w.left (λ e. f (sym (length-map us view) ∙ e)) in
    subst (λ z. WrongContext n z k unexpected) (sym q) (too_few (views vs) k (subst (λ m. m < 4) (length-map vs view ∙ sym (views_count vs)) l))

private_at : (n k : ℕ) (before after : List Tree) (t : Tree) → 4 ≤ length before → is_bytes t ≡ false → WrongContext n (array (trees (before ++ t ∷ after))) k unexpected
private_at n k (a ∷ u ∷ v ∷ s ∷ before) after t l w = in_private a u v s t before after k w
private_at n k before after t l w = absurd (omega (arith, l))

pub context_private : (n : ℕ) (t : Tree) (k : ℕ) (vs : List Value) (e : CoseError) → t ≡ array (views vs) → OrMemory (WrongPopped (map view vs)) e → OrMemory (WrongContext n t k) e
context_private n t k vs e q w = passed_on (WrongPopped (map view vs)) (WrongContext n t k) e
    (λ x. subst (λ z. WrongContext n z k (fault_of e)) (sym (q ∙ ap (λ z. array (trees z)) x.are))
    (subst (WrongContext n (array (trees (x.before ++ x.tree ∷ x.after))) k) (sym x.fault) (private_at n k x.before x.after x.tree x.many x.kind))) w

abbrev joined : Trees → Trees → Trees
joined no_trees us = us
joined (one_more t ts) us = one_more t (joined ts us)

trees_append : (xs ys : List Tree) → trees (xs ++ ys) ≡ joined (trees xs) (trees ys)
trees_append [] ys = refl
trees_append (x ∷ xs) ys = ap (λ z. one_more x z) (trees_append xs ys)

module _ (t a u v s : Tree) (vs us : List Value) (ps : List (List ℕ)) (q : t ≡ array (views vs)) (w : Popped (map view vs) (map view us) ps) (r : views us ≡ four_and a u v s no_trees) where
  pub context_whole : t ≡ array (four_and a u v s (trees (map bytes ps)))
  context_whole = q ∙ ap array (ap trees w.are ∙ trees_append (map view us) (map bytes ps) ∙ ap (λ z. joined z (trees (map bytes ps))) r)

  pub context_public : (n k : ℕ) (e : CoseError) → OrMemory (WrongPublic n s k) e → OrMemory (WrongContext n t k) e
  context_public n k e x = passed_on (WrongPublic n s k) (WrongContext n t k) e (λ y. subst (λ z. WrongContext n z k (fault_of e)) (sym context_whole) (in_public a u v s _ k (fault_of e) y)) x

  pub context_party_v : (n k : ℕ) (e : CoseError) → WrongParty v (fault_of e) → OrMemory (WrongContext n t k) e
  context_party_v n k e y = inr (subst (λ z. WrongContext n z k (fault_of e)) (sym context_whole) (in_party_v a u v s _ k (fault_of e) y))

  pub context_party_u : (n k : ℕ) (e : CoseError) → WrongParty u (fault_of e) → OrMemory (WrongContext n t k) e
  context_party_u n k e y = inr (subst (λ z. WrongContext n z k (fault_of e)) (sym context_whole) (in_party_u a u v s _ k (fault_of e) y))

  pub context_algorithm : (n k : ℕ) (e : CoseError) → OrMemory (WrongNamed is_algorithm is_private_use a) e → OrMemory (WrongContext n t k) e
  context_algorithm n k e x = passed_on (WrongNamed is_algorithm is_private_use a) (WrongContext n t k) e
      (λ y. subst (λ z. WrongContext n z k (fault_of e)) (sym context_whole) (wrong_algorithm a u v s _ k (fault_of e) y)) x
