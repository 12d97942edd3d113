-- Which fields a value has as a recipient, and a list as recipients (RFC 9052, section 5.1). The
-- nesting limit `n` and the layers `k` are those of headers. Recipients may lie inside one another
-- as deep as the value goes.
use Rattle.std.specs.Prelude.{◌≡◌, ℕ, ◌⊎◌, List, [], ◌∷◌, Option, Some, None}
use Rattle.ciborium_value.specs.Tree.{Tree, array, Trees, no_trees, one_more}
use Rattle.ciborium_value.specs.View.{trees}
use Rattle.coset_recipients.specs.PartsFields.{parts}
use Rattle.coset_recipients.specs.PartShapes.{HasParts}
use Rattle.coset_recipients.specs.Fields.{RecipientFields, recipient, RecipientsFields, no_recipients, recipient_more}

-- the item as a list of one; an empty list if there is none
abbrev pub optional_list : Option Tree → List Tree
optional_list None = []
optional_list (Some t) = t ∷ []

abbrev pub three_or_four : Tree → Tree → Tree → Option Tree → Trees
three_or_four x y z o = trees (x ∷ y ∷ z ∷ optional_list o)

-- an array of a protected header, an unprotected one, the ciphertext or null, and an array of
-- recipients if there is a fourth element
abbrev mutual
  pub HasRecipient : ℕ → Tree → RecipientFields → ℕ → Type 0
  HasRecipient n t (recipient p u c rs) k = (x y z : Tree) × (o : Option Tree) × (t ≡ array (three_or_four x y z o)) × HasParts n x y z (parts p u c) k
      × (((o ≡ None) × (rs ≡ no_recipients)) ⊎ ((ts : Trees) × (o ≡ Some (array ts)) × HasRecipients n ts rs k))

  pub HasRecipients : ℕ → Trees → RecipientsFields → ℕ → Type 0
  HasRecipients n ts no_recipients k = ts ≡ no_trees
  HasRecipients n ts (recipient_more r rs) k = (u : Tree) × (us : Trees) × (ts ≡ one_more u us) × HasRecipient n u r k × HasRecipients n us rs k

-- the recipients of a fourth element, and none if there isn't one
abbrev pub HasInner : ℕ → Option Tree → RecipientsFields → ℕ → Type 0
HasInner n o rs k = ((o ≡ None) × (rs ≡ no_recipients)) ⊎ ((ts : Trees) × (o ≡ Some (array ts)) × HasRecipients n ts rs k)

-- an array of recipients, which may be empty
abbrev pub HasList : ℕ → Tree → RecipientsFields → ℕ → Type 0
HasList n t rs k = (ts : Trees) × (t ≡ array ts) × HasRecipients n ts rs k
