-- What the ciphertext of a recipient covers (RFC 9052, section 5.3).
use Rattle.std.specs.Prelude.{ℕ, List, Option}
use Rattle.coset_base.specs.Contexts.{encryption_text}
use Rattle.coset_base.specs.Structure.{encryption_structure}
use Rattle.coset_base.specs.declared.context.EncryptionContext.{EncryptionContext}
use Rattle.coset_base.specs.declared.context.EncryptionContext.TheVariants as context
use Rattle.coset_recipients.specs.Fields.{RecipientFields, recipient}

-- the context is one of recipients
abbrev pub IsRecipientContext : EncryptionContext → Type 0
IsRecipientContext context.CoseEncrypt = ⊥
IsRecipientContext context.CoseEncrypt0 = ⊥
IsRecipientContext c = Unit {0}

-- the Enc_structure of a recipient, in a context and under external data; none if its protected
-- header can't be written
abbrev pub recipient_structure : EncryptionContext → RecipientFields → List ℕ → Option (List ℕ)
recipient_structure x (recipient p u c rs) aad = encryption_structure (encryption_text x) p aad
