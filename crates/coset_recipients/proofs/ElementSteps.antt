-- The elements of a message that are taken one by one.
use Rattle.std.proofs.Common.{◌≡◌, ◌≢◌, ℕ, false, inl, List, [], ◌∷◌, Option, None, Some, Result, Ok, Err, refl, sym, ap, subst, ◌∙◌, option_map}
use Rattle.std.specs.Global.{Vec}
use Rattle.std.specs.Prelude.{MatchOption}
use Rattle.ciborium_ll.specs.Reading.{Moves}
use Rattle.ciborium_value.specs.Tree.{Tree, Trees, array, bytes, simple, is_bytes}
use Rattle.ciborium_value.specs.View.{view, trees}
use Rattle.ciborium.specs.Front.{Reads}
use Rattle.coset_labels.specs.Faults.{CoseFault, OrMemory, fault_of, unexpected}
use Rattle.coset_labels.specs.declared.error.CoseError.{CoseError}
use Rattle.coset_headers.specs.Fields.{HeaderFields, ProtectedFields}
use Rattle.coset_headers.specs.Headers.{HasHeader, HasProtected}
use Rattle.coset_headers.specs.View.{header_view}
use Rattle.coset_headers.specs.Walks.{IsHeader}
use Rattle.coset_headers.specs.Wrong.{WrongHeader, WrongProtected}
use Rattle.coset_headers.specs.declared.header.Header.{Header}
use Rattle.coset_recipients.specs.Elements.{AreElements}
use Rattle.coset_recipients.specs.PartShapes.{HasWhole}
use Rattle.coset_recipients.specs.PartsFields.{parts}
use Rattle.coset_recipients.specs.PartsWritten.{optional_tree}
use Rattle.coset_recipients.specs.WrongParts.{WrongParts, WrongWhole, IsNoBytes}
use Rattle.coset_recipients.specs.declared.parts.Elements.{Elements}
use Rattle.coset_recipients.proofs.PartsRead.{parts_content, parts_unprotected, parts_protected}
use Rattle.coset_recipients.proofs.PartsSteps.{no_bytes, whole_parts, whole_lasts, whole_has}

-- the second of the items that were taken
pub second_taken : (n k limit : ℕ) (l m : Option (List ℕ)) (o o' : ℕ) (h : Header) (r : Result (Unit {0}) CoseError) (t : Moves l m o o' (λ b. (t : Tree) × Reads b limit t × IsHeader n k t h r)) → Moves l m o o' (λ b. Reads b limit t.has.0)
second_taken n k limit l m o o' h r t = record { bytes = t.bytes; has = t.has.1; taken = t.taken; grown = t.grown }

-- bytes or null that were carried
pub carried_is : (t : Tree) (o : Option (Vec ℕ)) → MatchOption o (t ≡ simple 22) (λ b. t ≡ bytes b.items) → t ≡ optional_tree (option_map (λ v. v.items) o)
carried_is t None e = e
carried_is t (Some b) e = e

module _ (n k : ℕ) (h : Header) (x : Elements) (ts : Trees) (w : AreElements n k h x ts) where
  pub last_wrong : (e : CoseError) → (fault_of e ≡ unexpected) × (is_bytes (view x.last) ≡ false) → OrMemory (WrongWhole n (array ts) (IsNoBytes ∷ []) k) e
  last_wrong e p = whole_lasts n (array ts) (IsNoBytes ∷ []) k (view x.protected) w.second (view x.content) (view x.last ∷ []) ts (IsNoBytes (view x.last)) e refl w.are refl (λ f y. inl y) (no_bytes (view x.last) e p)

  in_parts : (e : CoseError) → OrMemory (WrongParts n (view x.protected) w.second (view x.content) k) e → OrMemory (WrongWhole n (array ts) (IsNoBytes ∷ []) k) e
  in_parts e p = whole_parts n (array ts) (IsNoBytes ∷ []) k (view x.protected) w.second (view x.content) (view x.last ∷ []) ts e refl w.are refl p

  pub content_wrong : (e : CoseError) → (fault_of e ≡ unexpected) × (is_bytes (view x.content) ≡ false) × (view x.content ≢ simple 22) → OrMemory (WrongWhole n (array ts) (IsNoBytes ∷ []) k) e
  content_wrong e p = in_parts e (parts_content n (view x.protected) w.second (view x.content) k e p)

  pub header_wrong : (e : CoseError) → x.unprotected ≡ Err e → OrMemory (WrongWhole n (array ts) (IsNoBytes ∷ []) k) e
  header_wrong e q = in_parts e (parts_unprotected n (view x.protected) w.second (view x.content) k e (subst (λ z. IsHeader n k w.second h z) q w.header))

  pub protected_wrong : (e : CoseError) → OrMemory (WrongProtected n (view x.protected) k) e → OrMemory (WrongWhole n (array ts) (IsNoBytes ∷ []) k) e
  protected_wrong e p = in_parts e (parts_protected n (view x.protected) w.second (view x.content) k e p)

  pub all_has : (u : Unit {0}) (f : ProtectedFields) (c : Option (List ℕ)) (d : List ℕ) → x.unprotected ≡ Ok u → HasProtected n (view x.protected) f k → view x.content ≡ optional_tree c → view x.last ≡ bytes d
      → HasWhole n (array ts) (parts f (header_view h) c) ((λ t. t ≡ bytes d) ∷ []) k
  all_has u f c d q p e g = whole_has n (array ts) f (header_view h) c ((λ t. t ≡ bytes d) ∷ []) k (view x.protected) w.second (view x.content) (view x.last ∷ []) ts refl w.are
      (record { protected = p; unprotected = subst (λ z. IsHeader n k w.second h z) q w.header; content = e }) (g, tt)
