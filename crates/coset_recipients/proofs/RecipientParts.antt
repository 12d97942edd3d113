-- The parts of one recipient, and lists of recipients.
use Rattle.std.proofs.Common.{◌≡◌, List, [], ◌∷◌, ◌++◌, map, option_map, refl, sym, ap, ◌∙◌}
use Rattle.std.proofs.lemmas.List.{map-append}
use Rattle.coset_headers.specs.View.{header_view, protected_view}
use Rattle.coset_recipients.specs.Builders.{recipients_and}
use Rattle.coset_recipients.specs.Fields.{RecipientFields, recipient, recipients, recipient_more}
use Rattle.coset_recipients.specs.View.{recipient_step, recipient_view, recipients_view, fields_of, opened}
use Rattle.coset_recipients.specs.declared.recipient.CoseRecipient.{CoseRecipient, out-CoseRecipient, roll-CoseRecipient, fold-roll-CoseRecipient, fold_out-CoseRecipient}
use Rattle.coset_recipients.specs.declared.recipient.CoseRecipient.TheOpen.{CoseRecipient-F}

pub recipient_roll : (r : CoseRecipient-F CoseRecipient) → recipient_view (roll-CoseRecipient r) ≡ fields_of r
recipient_roll = fold-roll-CoseRecipient RecipientFields recipient_step

pub recipient_out : (r : CoseRecipient) → recipient_view r ≡ opened r
recipient_out = fold_out-CoseRecipient RecipientFields recipient_step

recipients_snoc : (rs : List RecipientFields) (r : RecipientFields) → recipients (rs ++ r ∷ []) ≡ recipients_and r (recipients rs)
recipients_snoc [] r = refl
recipients_snoc (s ∷ ss) r = ap (recipient_more s) (recipients_snoc ss r)

-- one more recipient, after the others
pub recipients_last : (old new : List CoseRecipient) (r : CoseRecipient) → new ≡ old ++ r ∷ [] → recipients_view new ≡ recipients_and (recipient_view r) (recipients_view old)
recipients_last old new r e = ap recipients_view e ∙ ap recipients (map-append recipient_view old (r ∷ [])) ∙ recipients_snoc (map recipient_view old) (recipient_view r)

-- a recipient whose parts are copies
pub recipient_copied : (x : CoseRecipient-F CoseRecipient) (r : CoseRecipient) → protected_view x.protected ≡ protected_view (out-CoseRecipient r).protected → header_view x.unprotected ≡ header_view (out-CoseRecipient r).unprotected
    → option_map (λ v. v.items) x.ciphertext ≡ option_map (λ v. v.items) (out-CoseRecipient r).ciphertext → map recipient_view x.recipients.items ≡ map recipient_view (out-CoseRecipient r).recipients.items
    → recipient_view (roll-CoseRecipient x) ≡ recipient_view r
recipient_copied x r p u c rs = recipient_roll x ∙ (λ i. recipient (p i) (u i) (c i) (recipients (rs i))) ∙ sym (recipient_out r)
