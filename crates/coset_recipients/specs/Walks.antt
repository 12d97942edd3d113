-- What the parts of the reader and of the writer show.
use Rattle.std.specs.Prelude.{◌≡◌, ℕ, List, [], ◌∷◌, ◌++◌, Option, option_map}
use Rattle.ciborium_value.specs.Tree.{Tree}
use Rattle.coset_labels.specs.Faults.{CoseFault, unexpected}
use Rattle.coset_headers.specs.View.{header_view, protected_view}
use Rattle.coset_recipients.specs.PartsFields.{parts}
use Rattle.coset_recipients.specs.PartShapes.{HasParts}
use Rattle.coset_recipients.specs.PartsWritten.{parts_trees}
use Rattle.coset_recipients.specs.WrongParts.{WrongParts}
use Rattle.coset_recipients.specs.Fields.{RecipientFields, recipient, RecipientsFields}
use Rattle.coset_recipients.specs.View.{recipient_view}
use Rattle.coset_recipients.specs.declared.recipient.CoseRecipient.{CoseRecipient, out-CoseRecipient}

-- a recipient of which P holds was appended
abbrev pub Pushes : (RecipientFields → Type 0) → List CoseRecipient → List CoseRecipient → Type 0
Pushes P old new = (r : CoseRecipient) × (new ≡ old ++ r ∷ []) × P (recipient_view r)

-- three elements and the recipients in it have the fields of this recipient
abbrev pub HasThree : ℕ → List Tree → RecipientsFields → RecipientFields → ℕ → Type 0
HasThree n (x ∷ y ∷ z ∷ []) inner (recipient p u c rs) k = HasParts n x y z (parts p u c) k × (rs ≡ inner)
HasThree n _ inner r k = ⊥

-- which fault three elements have; a list of another length is an unexpected item
abbrev pub WrongThree : ℕ → List Tree → ℕ → CoseFault → Type 0
WrongThree n (x ∷ y ∷ z ∷ []) k e = WrongParts n x y z k e
WrongThree n _ k e = e ≡ unexpected

-- the values of the first three elements; none if a header can't be written
abbrev pub parts_of : CoseRecipient → Option (List Tree)
parts_of r = parts_trees (parts (protected_view (out-CoseRecipient r).protected) (header_view (out-CoseRecipient r).unprotected) (option_map (λ v. v.items) (out-CoseRecipient r).ciphertext))
