-- The value that stands for the fields of an authenticated message (RFC 9052, sections 6.1 and
-- 6.2). There is none if a header can't be written.
use Rattle.std.specs.Prelude.{[], ◌∷◌, Option, Some}
use Rattle.ciborium_value.specs.Tree.{Tree, bytes}
use Rattle.coset_recipients.specs.PartsFields.{parts}
use Rattle.coset_recipients.specs.PartsWritten.{whole_tree}
use Rattle.coset_recipients.specs.Written.{list_tree}
use Rattle.coset_maced.specs.Fields.{Mac0Fields, MacFields}

abbrev pub mac0_tree : Mac0Fields → Option Tree
mac0_tree m = whole_tree (parts m.protected m.unprotected m.payload) (Some (bytes m.tag) ∷ [])

abbrev pub mac_tree : MacFields → Option Tree
mac_tree m = whole_tree (parts m.protected m.unprotected m.payload) (Some (bytes m.tag) ∷ list_tree m.recipients ∷ [])
