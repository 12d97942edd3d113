-- What is as received is written straight from its fields as what is written of it.
use Rattle.std.proofs.Common.{◌≡◌, ℕ, List, [], ◌∷◌, ◌++◌, true, Option, Some, option_map, option_and_then, refl, sym, ap, ◌∙◌}
use Rattle.std.proofs.lemmas.Bool.{and_parts}
use Rattle.ciborium_value.specs.Tree.{Tree, bytes, array, one_more}
use Rattle.ciborium_value.specs.View.{trees}
use Rattle.coset_labels.specs.Arrays.{all_written}
use Rattle.coset_headers.specs.Fields.{HeaderFields, ProtectedFields}
use Rattle.coset_headers.specs.Written.{header_tree}
use Rattle.coset_base.specs.Put.{header_put}
use Rattle.coset_base.proofs.Received.{prot_shown, hdr_written}
use Rattle.coset_recipients.specs.PartsFields.{parts}
use Rattle.coset_recipients.specs.PartsWritten.{optional_tree, parts_trees, whole_tree}
use Rattle.coset_recipients.specs.Fields.{RecipientFields, recipient, RecipientsFields, no_recipients, recipient_more}
use Rattle.coset_recipients.specs.Written.{whole, recipient_tree, recipients_trees, list_tree}
use Rattle.coset_recipients.specs.Put.{parts_put, whole_put, recipient_put, recipients_put, are_received_parts, is_received_recipient, are_received_recipients}

-- ---- the parts, and the last items after them
pub parts_written : (p : ProtectedFields) (u : HeaderFields) (c : Option (List ℕ)) → are_received_parts (parts p u c) ≡ true → parts_trees (parts p u c) ≡ Some (parts_put (parts p u c))
parts_written p u c r =
    let q = and_parts _ _ r in
    let w = prot_shown p q.0 in
    ap (option_and_then (λ b. option_map (λ t. bytes b ∷ t ∷ optional_tree c ∷ []) (header_tree u))) w.1
    ∙ ap (option_map (λ t. bytes w.0 ∷ t ∷ optional_tree c ∷ [])) (hdr_written u q.1)
    ∙ ap (λ z. Some (z ∷ header_put u ∷ optional_tree c ∷ [])) (sym w.2)

pub whole_written : (p : ProtectedFields) (u : HeaderFields) (c : Option (List ℕ)) (os : List (Option Tree)) (ls : List Tree) → are_received_parts (parts p u c) ≡ true → all_written (λ o. o) os ≡ Some ls
    → whole_tree (parts p u c) os ≡ Some (whole_put (parts p u c) ls)
whole_written p u c os ls r l =
    ap (option_and_then (λ ps. option_map (λ zs. array (trees (ps ++ zs))) (all_written (λ o. o) os))) (parts_written p u c r)
    ∙ ap (option_map (λ zs. array (trees (parts_put (parts p u c) ++ zs)))) l

-- ---- recipients
mutual
  pub recipient_written : (r : RecipientFields) → is_received_recipient r ≡ true → recipient_tree r ≡ Some (recipient_put r)
  recipient_written (recipient p u c rs) r =
      let q = and_parts _ _ r in
      ap (option_and_then (λ ps. option_map (λ ts. whole ps ts) (recipients_trees rs))) (parts_written p u c q.0)
      ∙ ap (option_map (λ ts. whole (parts_put (parts p u c)) ts)) (recipients_written rs q.1)

  recipients_written : (rs : RecipientsFields) → are_received_recipients rs ≡ true → recipients_trees rs ≡ Some (recipients_put rs)
  recipients_written no_recipients h = refl
  recipients_written (recipient_more r rs) h =
      let q = and_parts _ _ h in
      ap (option_and_then (λ t. option_map (λ ts. one_more t ts) (recipients_trees rs))) (recipient_written r q.0)
      ∙ ap (option_map (λ ts. one_more (recipient_put r) ts)) (recipients_written rs q.1)

pub list_written : (rs : RecipientsFields) → are_received_recipients rs ≡ true → list_tree rs ≡ Some (array (recipients_put rs))
list_written rs r = ap (option_map array) (recipients_written rs r)
