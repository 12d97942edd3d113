-- What the ciphertext of an encrypted message covers (RFC 9052, section 5.3); none if the
-- protected header can't be written.
use Rattle.std.specs.Prelude.{ℕ, List, Option}
use Rattle.coset_base.specs.Contexts.{encryption_text}
use Rattle.coset_base.specs.Structure.{encryption_structure}
use Rattle.coset_base.specs.declared.context.EncryptionContext.TheVariants.{CoseEncrypt, CoseEncrypt0}
use Rattle.coset_encrypted.specs.Fields.{Encrypt0Fields, EncryptFields}

abbrev pub encrypt0_covered : Encrypt0Fields → List ℕ → Option (List ℕ)
encrypt0_covered m aad = encryption_structure (encryption_text CoseEncrypt0) m.protected aad

abbrev pub encrypt_covered : EncryptFields → List ℕ → Option (List ℕ)
encrypt_covered m aad = encryption_structure (encryption_text CoseEncrypt) m.protected aad
