-- A signed message that was read is as written exactly when the test on its value says so.
use Rattle.std.proofs.Common.{◌≡◌, ℕ, List, [], ◌∷◌, true, Option, Some, None, option_map, refl, sym, ap, subst, ◌∙◌}
use Rattle.std.specs.Prelude.{◌&&◌, Decides}
use Rattle.ciborium_value.specs.Tree.{Tree, bytes, array}
use Rattle.ciborium_value.specs.View.{trees}
use Rattle.coset_labels.specs.Arrays.{all_written, array_of}
use Rattle.coset_headers.specs.AsWritten.{is_canonical_header, is_canonical_signature}
use Rattle.coset_headers.specs.Fields.{SignatureFields, signatures}
use Rattle.coset_headers.specs.Written.{signature_tree, signature_trees}
use Rattle.coset_headers.proofs.Canonical.{sigs_canonical}
use Rattle.coset_headers.proofs.Written.{signature_list}
use Rattle.coset_recipients.proofs.PartsAgain.{map_made}
use Rattle.coset_recipients.specs.PartShapes.{one_held}
use Rattle.coset_recipients.proofs.PartsOnce.{in_array}
use Rattle.coset_recipients.proofs.PartsCanonical.{and_true, whole_canonical}
use Rattle.coset_signed.specs.AsWritten.{is_canonical_sign, is_canonical_list}
use Rattle.coset_signed.specs.Fields.{Sign1Fields, SignFields}
use Rattle.coset_signed.specs.Shapes.{IsSignatureList, HasSign1, HasSign}
use Rattle.coset_signed.specs.Written.{sign1_tree, sign_tree}

-- ---- one signature
pub sign1_by : (n : ℕ) (m : Sign1Fields) (t : Tree) (k : ℕ) → HasSign1 n t m k → Decides (is_canonical_signature t) (sign1_tree m ≡ Some t)
sign1_by n m t k h =
    let w = one_held _ h.lasts h.hold in
    subst (λ b. Decides b (sign1_tree m ≡ Some t)) (and_true (is_canonical_header h.second) ∙ sym (ap is_canonical_signature h.is))
    (whole_canonical n t m.protected m.unprotected m.payload _ (Some (bytes m.signature) ∷ []) k h true
    (λ e. ap Some (sym (w.1 ∙ ap (λ d. d ∷ []) w.2)), λ e. refl))

-- ---- several
array_is : (ss : List SignatureFields) → array_of signature_tree ss ≡ option_map array (signature_trees (signatures ss))
array_is ss = go (all_written signature_tree ss) ∙ sym (ap (option_map array) (signature_list ss))
  where
    go : (o : Option (List Tree)) → option_map (λ ts. array (trees ts)) o ≡ option_map array (option_map trees o)
    go None = refl
    go (Some ts) = refl

list_by : (n : ℕ) (ss : List SignatureFields) (t : Tree) (k : ℕ) → IsSignatureList n t ss k → Decides (is_canonical_list t) (array_of signature_tree ss ≡ Some t)
list_by n ss t k (us, e, h) =
    let d = sigs_canonical n (signatures ss) us k h in
    subst (λ z. Decides (is_canonical_list z) (array_of signature_tree ss ≡ Some z)) (sym e) (
      λ f. array_is ss ∙ ap (option_map array) (d.0 f),
      λ f.
          let w = map_made array (signature_trees (signatures ss)) (array us) (sym (array_is ss) ∙ f) in
          d.1 (w.1 ∙ ap Some (in_array w.0 us w.2)),
    )

last_made : (o : Option Tree) (x : Tree) → all_written (λ q. q) (o ∷ []) ≡ Some (x ∷ []) → o ≡ Some x
last_made None x e = let f : None ≡ Some (x ∷ []) = e in absurd (let g : ⊥ = cc in g)
last_made (Some y) x e = let f : Some (y ∷ []) ≡ Some (x ∷ []) = e in let g : y ≡ x = cc in ap Some g

pub sign_by : (n : ℕ) (m : SignFields) (t : Tree) (k : ℕ) → HasSign n t m k → Decides (is_canonical_sign t) (sign_tree m ≡ Some t)
sign_by n m t k h =
    let w = one_held _ h.lasts h.hold in
    let signs = array_of signature_tree m.signatures in
    let l = list_by n m.signatures w.0 k w.2 in
    let test : is_canonical_sign t ≡ (is_canonical_header h.second && is_canonical_list w.0) = ap is_canonical_sign (h.is ∙ ap (λ ls. array (trees (h.first ∷ h.second ∷ h.third ∷ ls))) w.1) in
    subst (λ b. Decides b (sign_tree m ≡ Some t)) (sym test)
    (whole_canonical n t m.protected m.unprotected m.payload _ (signs ∷ []) k h (is_canonical_list w.0) (
      λ e. ap (λ o. all_written (λ q. q) (o ∷ [])) (l.0 e) ∙ ap Some (sym w.1),
      λ e. l.1 (last_made signs w.0 (e ∙ ap Some w.1)),
    ))
