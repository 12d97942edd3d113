-- The fields of recipients, as values that hold no memory (RFC 9052, section 5.1).
use Rattle.std.specs.Prelude.{ℕ, List, [], ◌∷◌, Option}
use Rattle.coset_headers.specs.Fields.{HeaderFields, ProtectedFields}

-- a protected header, an unprotected one, the ciphertext if there is one, and the recipients who
-- can find its key
mutual
  pub data RecipientFields : Type 0 where
    recipient : ProtectedFields → HeaderFields → Option (List ℕ) → RecipientsFields → RecipientFields

  pub data RecipientsFields : Type 0 where
    no_recipients : RecipientsFields
    recipient_more : RecipientFields → RecipientsFields → RecipientsFields

abbrev pub recipients : List RecipientFields → RecipientsFields
recipients [] = no_recipients
recipients (r ∷ rs) = recipient_more r (recipients rs)

abbrev pub ciphertext_of : RecipientFields → Option (List ℕ)
ciphertext_of (recipient p u c rs) = c
