-- What was read is as received.
use Rattle.std.proofs.Common.{◌≡◌, ℕ, zero, suc, ◌<◌, inl, inr, List, [], ◌∷◌, length, get_or, true, Option, refl, ap, arith}
use Rattle.std.proofs.lemmas.Bool.{and_parts, and_from}
use Rattle.ciborium_value.specs.Tree.{Tree, Trees}
use Rattle.coset_headers.specs.Fields.{HeaderFields, ProtectedFields}
use Rattle.coset_base.proofs.Received.{prot_received, hdr_received}
use Rattle.coset_recipients.specs.PartsFields.{parts}
use Rattle.coset_recipients.specs.PartShapes.{HasParts}
use Rattle.coset_recipients.specs.Fields.{RecipientFields, recipient, RecipientsFields, no_recipients, recipient_more}
use Rattle.coset_recipients.specs.Shapes.{HasRecipient, HasRecipients, HasInner, HasList}
use Rattle.coset_recipients.specs.View.{recipient_view, recipients_view}
use Rattle.coset_recipients.specs.declared.recipient.CoseRecipient.{CoseRecipient}
use Rattle.coset_recipients.specs.Put.{are_received_parts, is_received_recipient, are_received_recipients}

pub parts_received : (n : ℕ) (x y z : Tree) (p : ProtectedFields) (u : HeaderFields) (c : Option (List ℕ)) (k : ℕ) → HasParts n x y z (parts p u c) k → are_received_parts (parts p u c) ≡ true
parts_received n x y z p u c k h = and_from _ _ (prot_received n p x k h.protected) (hdr_received n u y k h.unprotected)

-- ---- recipients
inner_received : (n : ℕ) (rs : RecipientsFields) (o : Option Tree) (k : ℕ) → ((ts : Trees) → HasRecipients n ts rs k → are_received_recipients rs ≡ true) → HasInner n o rs k → are_received_recipients rs ≡ true
inner_received n rs o k f (inl a) = ap are_received_recipients a.1
inner_received n rs o k f (inr a) = f a.0 a.2

mutual
  pub recipient_received : (n : ℕ) (r : RecipientFields) (t : Tree) (k : ℕ) → HasRecipient n t r k → is_received_recipient r ≡ true
  recipient_received n (recipient p u c rs) t k a = and_from _ _ (parts_received n a.0 a.1 a.2 p u c k a.5) (inner_received n rs a.3 k (λ ts x. recipients_received n rs ts k x) a.6)

  recipients_received : (n : ℕ) (rs : RecipientsFields) (ts : Trees) (k : ℕ) → HasRecipients n ts rs k → are_received_recipients rs ≡ true
  recipients_received n no_recipients ts k a = refl
  recipients_received n (recipient_more r rs) ts k a = and_from _ _ (recipient_received n r a.0 k a.3) (recipients_received n rs a.1 k a.4)

pub list_received : (n : ℕ) (rs : RecipientsFields) (t : Tree) (k : ℕ) → HasList n t rs k → are_received_recipients rs ≡ true
list_received n rs t k a = recipients_received n rs a.0 k a.2

-- ---- each recipient of a list that is as received
pub received_at : (rs : List CoseRecipient) (i : ℕ) (d : CoseRecipient) → i < length rs → are_received_recipients (recipients_view rs) ≡ true → is_received_recipient (recipient_view (get_or rs i d)) ≡ true
received_at [] i d p r = absurd (omega arith)
received_at (s ∷ rs) zero d p r = (and_parts _ _ r).0
received_at (s ∷ rs) (suc i) d p r = received_at rs i d (omega arith) (and_parts _ _ r).1
