-- An authenticated message that was read is as written exactly when the test on its value says so.
use Rattle.std.proofs.Common.{◌≡◌, ℕ, List, [], ◌∷◌, true, Option, None, Some, option_map, refl, sym, ap, subst, ◌∙◌}
use Rattle.std.specs.Prelude.{◌&&◌, Decides}
use Rattle.ciborium_value.specs.Tree.{Tree, bytes, array}
use Rattle.ciborium_value.specs.View.{trees}
use Rattle.coset_labels.specs.Arrays.{all_written}
use Rattle.coset_headers.specs.AsWritten.{is_canonical_header, is_canonical_signature}
use Rattle.coset_recipients.proofs.PartsAgain.{map_made}
use Rattle.coset_recipients.specs.PartShapes.{one_held, two_held}
use Rattle.coset_recipients.proofs.PartsOnce.{in_array}
use Rattle.coset_recipients.proofs.PartsCanonical.{and_true, whole_canonical}
use Rattle.coset_recipients.specs.Fields.{RecipientsFields}
use Rattle.coset_recipients.specs.Shapes.{HasList}
use Rattle.coset_recipients.specs.Written.{recipients_trees, list_tree}
use Rattle.coset_recipients.proofs.Canonical.{recipients_by}
use Rattle.coset_maced.specs.AsWritten.{is_canonical_mac, is_canonical_list}
use Rattle.coset_maced.specs.Fields.{Mac0Fields, MacFields}
use Rattle.coset_maced.specs.Shapes.{HasMac0, HasMac}
use Rattle.coset_maced.specs.Written.{mac0_tree, mac_tree}

-- ---- without recipients
pub mac0_by : (n : ℕ) (m : Mac0Fields) (t : Tree) (k : ℕ) → HasMac0 n t m k → Decides (is_canonical_signature t) (mac0_tree m ≡ Some t)
mac0_by n m t k h =
    let w = one_held _ h.lasts h.hold in
    subst (λ b. Decides b (mac0_tree m ≡ Some t)) (and_true (is_canonical_header h.second) ∙ sym (ap is_canonical_signature h.is))
    (whole_canonical n t m.protected m.unprotected m.payload _ (Some (bytes m.tag) ∷ []) k h true
    (λ e. ap Some (sym (w.1 ∙ ap (λ d. d ∷ []) w.2)), λ e. refl))

-- ---- with recipients
list_by : (n : ℕ) (rs : RecipientsFields) (t : Tree) (k : ℕ) → HasList n t rs k → Decides (is_canonical_list t) (list_tree rs ≡ Some t)
list_by n rs t k (us, e, h) =
    let d = recipients_by n rs us k h in
    subst (λ z. Decides (is_canonical_list z) (list_tree rs ≡ Some z)) (sym e) (
      λ f. ap (option_map array) (d.0 f),
      λ f.
          let w = map_made array (recipients_trees rs) (array us) f in
          d.1 (w.1 ∙ ap Some (in_array w.0 us w.2)),
    )

second_same : (w x y z : Tree) → w ∷ x ∷ [] ≡ y ∷ z ∷ [] → x ≡ z
second_same w x y z e = cc

pub mac_by : (n : ℕ) (m : MacFields) (t : Tree) (k : ℕ) → HasMac n t m k → Decides (is_canonical_mac t) (mac_tree m ≡ Some t)
mac_by n m t k h =
    let w = two_held _ _ h.lasts h.hold in
    let l = list_by n m.recipients w.1 k w.4 in
    let lasts : h.lasts ≡ bytes m.tag ∷ w.1 ∷ [] = w.2 ∙ ap (λ d. d ∷ w.1 ∷ []) w.3 in
    let test : is_canonical_mac t ≡ (is_canonical_header h.second && is_canonical_list w.1) = ap is_canonical_mac (h.is ∙ ap (λ ls. array (trees (h.first ∷ h.second ∷ h.third ∷ ls))) w.2) in
    subst (λ b. Decides b (mac_tree m ≡ Some t)) (sym test)
    (whole_canonical n t m.protected m.unprotected m.payload _ (Some (bytes m.tag) ∷ list_tree m.recipients ∷ []) k h (is_canonical_list w.1) (
      λ e. ap (λ o. all_written (λ q. q) (Some (bytes m.tag) ∷ o ∷ [])) (l.0 e) ∙ ap Some (sym lasts),
      λ e. let v = last_made m.tag (list_tree m.recipients) h.lasts e in l.1 (v.1 ∙ ap Some (second_same _ _ _ _ (v.2 ∙ lasts))),
    ))
  where
    last_made : (b : List ℕ) (o : Option Tree) (ts : List Tree) → all_written (λ q. q) (Some (bytes b) ∷ o ∷ []) ≡ Some ts → (x : Tree) × (o ≡ Some x) × (bytes b ∷ x ∷ [] ≡ ts)
    last_made b None ts e = let f : None ≡ Some ts = e in absurd (let g : ⊥ = cc in g)
    last_made b (Some x) ts e = let f : Some (bytes b ∷ x ∷ []) ≡ Some ts = e in let g : bytes b ∷ x ∷ [] ≡ ts = cc in (x, refl, g)
