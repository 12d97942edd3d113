-- What was read is written as the value that it was read of, and the encoding of that value is read
-- as it.
use Rattle.std.proofs.Common.{◌≡◌, ℕ, List, Option, Some, sym, subst, ◌∙◌}
use Rattle.ciborium_value.specs.Tree.{Tree}
use Rattle.ciborium_value.specs.Encoding.{enc, Fits}
use Rattle.coset_labels.specs.Reading.{HasItem}
use Rattle.coset_headers.proofs.Sound.{Sound, reads_sound, sound_reads}
use Rattle.coset_kdf.specs.Contexts.{HasParty, HasPublic, HasContext}
use Rattle.coset_kdf.specs.Fields.{PartyFields, PublicFields, ContextFields}
use Rattle.coset_kdf.specs.Written.{party_tree, public_tree, context_tree}
use Rattle.coset_kdf.proofs.Back.{party_back, public_back, context_back}

item_again : {F : Type 0} (Shape : Tree → F → Type 0) (b : List ℕ) (f : F) (u : Tree) (i : HasItem Shape b f) → i.tree ≡ u → Fits u → HasItem Shape (enc u) f
item_again Shape b f u i e l = record {
  tree = u;
  reads = sound_reads 256 u l (subst (Sound 256) e (reads_sound b 256 i.tree i.reads));
  shape = subst (λ z. Shape z f) e i.shape;
}

some_one : (o : Option Tree) (t u : Tree) → o ≡ Some t → o ≡ Some u → t ≡ u
some_one o t u p q = let h : Some t ≡ Some u = sym p ∙ q in cc

pub party_again : (b : List ℕ) (p : PartyFields) → Fits (party_tree p) → HasItem HasParty b p → HasItem HasParty (enc (party_tree p)) p
party_again b p l i = item_again HasParty b p (party_tree p) i (sym (party_back i.tree p i.shape)) l

pub public_again : (b : List ℕ) (s : PublicFields) (u : Tree) → ((t : Tree) → HasPublic 256 t s 16 → Fits u) → HasItem (λ t s. HasPublic 256 t s 16) b s → public_tree s ≡ Some u
    → HasItem (λ t s. HasPublic 256 t s 16) (enc u) s
public_again b s u l i e = item_again (λ t s. HasPublic 256 t s 16) b s u i (some_one (public_tree s) i.tree u (public_back 256 16 i.tree s i.shape) e) (l i.tree i.shape)

pub context_again : (b : List ℕ) (c : ContextFields) (u : Tree) → ((t : Tree) → HasContext 256 t c 16 → Fits u) → HasItem (λ t c. HasContext 256 t c 16) b c → context_tree c ≡ Some u
    → HasItem (λ t c. HasContext 256 t c 16) (enc u) c
context_again b c u l i e = item_again (λ t c. HasContext 256 t c 16) b c u i (some_one (context_tree c) i.tree u (context_back 256 16 i.tree c i.shape) e) (l i.tree i.shape)
