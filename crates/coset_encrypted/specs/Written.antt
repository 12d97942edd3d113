-- The value that stands for the fields of an encrypted message (RFC 9052, sections 5.1 and 5.2).
-- There is none if a header can't be written.
use Rattle.std.specs.Prelude.{[], ◌∷◌, Option}
use Rattle.ciborium_value.specs.Tree.{Tree}
use Rattle.coset_recipients.specs.PartsFields.{parts}
use Rattle.coset_recipients.specs.PartsWritten.{whole_tree}
use Rattle.coset_recipients.specs.Written.{list_tree}
use Rattle.coset_encrypted.specs.Fields.{Encrypt0Fields, EncryptFields}

abbrev pub encrypt0_tree : Encrypt0Fields → Option Tree
encrypt0_tree m = whole_tree (parts m.protected m.unprotected m.ciphertext) []

abbrev pub encrypt_tree : EncryptFields → Option Tree
encrypt_tree m = whole_tree (parts m.protected m.unprotected m.ciphertext) (list_tree m.recipients ∷ [])
