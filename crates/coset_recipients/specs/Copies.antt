-- A recipient that is copied before the recipients in it are.
use Rattle.std.specs.Prelude.{◌≡◌, List, [], ◌∷◌, ◌++◌}
use Rattle.coset_recipients.specs.Fields.{RecipientFields, recipient, no_recipients}
use Rattle.coset_recipients.specs.View.{recipient_view}
use Rattle.coset_recipients.specs.declared.recipient.CoseRecipient.{CoseRecipient}

-- the same recipient, with no recipients in it
abbrev pub without_recipients : RecipientFields → RecipientFields
without_recipients (recipient p u c rs) = recipient p u c no_recipients

-- such a copy is one more, at the end
abbrev pub PushesPlain : CoseRecipient → List CoseRecipient → List CoseRecipient → Type 0
PushesPlain r old new = (copy : CoseRecipient) × (new ≡ old ++ copy ∷ []) × (recipient_view copy ≡ without_recipients (recipient_view r))
