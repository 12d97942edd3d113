-- What messages with a tag are written as straight from their fields (RFC 9052, sections 6.1 and
-- 6.2). Only what is as received is written so.
use Rattle.std.specs.Prelude.{[], ◌∷◌, Bool, ◌&&◌}
use Rattle.ciborium_value.specs.Tree.{Tree, bytes, array}
use Rattle.coset_recipients.specs.PartsFields.{parts}
use Rattle.coset_maced.specs.Fields.{Mac0Fields, MacFields}
use Rattle.coset_recipients.specs.Put.{whole_put, recipients_put, are_received_parts, are_received_recipients}

abbrev pub mac0_put : Mac0Fields → Tree
mac0_put m = whole_put (parts m.protected m.unprotected m.payload) (bytes m.tag ∷ [])

-- the list of recipients is there even if it is empty
abbrev pub mac_put : MacFields → Tree
mac_put m = whole_put (parts m.protected m.unprotected m.payload) (bytes m.tag ∷ array (recipients_put m.recipients) ∷ [])

-- the headers are as received
abbrev pub is_received_mac0 : Mac0Fields → Bool
is_received_mac0 m = are_received_parts (parts m.protected m.unprotected m.payload)

abbrev pub is_received_mac : MacFields → Bool
is_received_mac m = are_received_parts (parts m.protected m.unprotected m.payload) && are_received_recipients m.recipients
