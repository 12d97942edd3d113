-- The events of the parts of recipients and messages, one after another.
use Rattle.std.proofs.Common.{◌≡◌, ◌≢◌, ℕ, ◌+◌, List, [], ◌∷◌, ◌++◌, length, refl, sym, ap, ◌∙◌, append_assoc, append-nil, arith}
use Rattle.ciborium_value.specs.Tree as spec
use Rattle.ciborium_value.specs.Tree.{Tree, Trees, no_trees, one_more, tree_count}
use Rattle.ciborium_traits.specs.Events as event
use Rattle.ciborium_traits.specs.Events.{events, events_all}
use Rattle.coset_recipients.specs.PartsFields.{PartsFields}
use Rattle.coset_recipients.specs.PartsView.{parts_in}
use Rattle.coset_recipients.specs.View.{recipient_view, recipients_view}
use Rattle.coset_recipients.specs.Written.{whole}
use Rattle.coset_recipients.specs.declared.recipient.CoseRecipient.{CoseRecipient, out-CoseRecipient}
use Rattle.coset_recipients.proofs.RecipientParts.{recipient_out}
use Rattle.coset_recipients.specs.Put.{parts_put, whole_put, recipient_put, recipients_put, begun, inner_begun, item_count, recipient_begun}

-- ---- the last item is bytes, any item, or both
pub bytes_last : (f : PartsFields) (b : List ℕ) → events (whole_put f (spec.bytes b ∷ [])) ≡ begun 4 f ++ (event.bytes b ∷ [])
bytes_last f b = simp append_assoc

pub item_last : (f : PartsFields) (t : Tree) → events (whole_put f (t ∷ [])) ≡ begun 4 f ++ events t
item_last f t = simp (append_assoc, append-nil)

pub both_last : (f : PartsFields) (b : List ℕ) (t : Tree) → events (whole_put f (spec.bytes b ∷ t ∷ [])) ≡ begun 5 f ++ (event.bytes b ∷ events t)
both_last f b t = simp (append_assoc, append-nil)

-- ---- a recipient
recipient_parts : (f : PartsFields) (ts : Trees) → events (whole (parts_put f) ts) ≡ (begun (item_count ts) f ++ inner_begun ts) ++ events_all ts
recipient_parts f no_trees = simp (append_assoc, append-nil)
recipient_parts f (one_more t ts) = simp (append_assoc, append-nil)

pub recipient_opened : (r : CoseRecipient) → events (recipient_put (recipient_view r)) ≡ recipient_begun (recipient_view r) ++ events_all (recipients_put (recipients_view (out-CoseRecipient r).recipients.items))
recipient_opened r =
    let o = out-CoseRecipient r in
    let ts = recipients_put (recipients_view o.recipients.items) in
    ap (λ z. events (recipient_put z)) (recipient_out r) ∙ recipient_parts (parts_in o.protected o.unprotected o.ciphertext) ts ∙ sym (ap (λ z. recipient_begun z ++ events_all ts) (recipient_out r))

pub begun_opened : (r : CoseRecipient) → recipient_begun (recipient_view r)
    ≡ begun (item_count (recipients_put (recipients_view (out-CoseRecipient r).recipients.items))) (parts_in (out-CoseRecipient r).protected (out-CoseRecipient r).unprotected (out-CoseRecipient r).ciphertext)
    ++ inner_begun (recipients_put (recipients_view (out-CoseRecipient r).recipients.items))
begun_opened r = ap recipient_begun (recipient_out r)

-- ---- the recipients inside one
pub some_counted : (rs : List CoseRecipient) → rs ≢ [] → 4 ≡ item_count (recipients_put (recipients_view rs))
some_counted [] n = absurd (n refl)
some_counted (r ∷ rs) n = refl

recipients_counted : (rs : List CoseRecipient) → tree_count (recipients_put (recipients_view rs)) ≡ length rs
recipients_counted [] = refl
recipients_counted (r ∷ rs) = let h : tree_count (recipients_put (recipients_view rs)) ≡ length rs = recipients_counted rs in omega arith

pub inner_opened : (rs : List CoseRecipient) → rs ≢ [] → inner_begun (recipients_put (recipients_view rs)) ≡ event.array (length rs) ∷ []
inner_opened [] n = absurd (n refl)
inner_opened (r ∷ rs) n = ap (λ z. event.array z ∷ []) (recipients_counted (r ∷ rs))

pub list_opened : (rs : List CoseRecipient) → events (spec.array (recipients_put (recipients_view rs))) ≡ event.array (length rs) ∷ events_all (recipients_put (recipients_view rs))
list_opened rs = ap (λ z. event.array z ∷ events_all (recipients_put (recipients_view rs))) (recipients_counted rs)
