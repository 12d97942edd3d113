-- The values that stand for the fields of signed messages (RFC 9052, sections 4.1 and 4.2); none if
-- a header can't be written.
use Rattle.std.specs.Prelude.{[], ◌∷◌, Option, Some}
use Rattle.ciborium_value.specs.Tree.{Tree, bytes}
use Rattle.coset_labels.specs.Arrays.{array_of}
use Rattle.coset_headers.specs.Written.{signature_tree}
use Rattle.coset_recipients.specs.PartsFields.{parts}
use Rattle.coset_recipients.specs.PartsWritten.{whole_tree}
use Rattle.coset_signed.specs.Fields.{Sign1Fields, SignFields}

abbrev pub sign1_tree : Sign1Fields → Option Tree
sign1_tree m = whole_tree (parts m.protected m.unprotected m.payload) (Some (bytes m.signature) ∷ [])

abbrev pub sign_tree : SignFields → Option Tree
sign_tree m = whole_tree (parts m.protected m.unprotected m.payload) (array_of signature_tree m.signatures ∷ [])
