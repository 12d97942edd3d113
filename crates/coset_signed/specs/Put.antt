-- What signed messages are written as straight from their fields (RFC 9052, sections 4.1 and 4.2).
-- Only what is as received is written so.
use Rattle.std.specs.Prelude.{[], ◌∷◌, Bool, ◌&&◌}
use Rattle.ciborium_value.specs.Tree.{Tree, bytes, array}
use Rattle.coset_headers.specs.Fields.{signatures}
use Rattle.coset_headers.specs.Received.{are_received_signatures}
use Rattle.coset_base.specs.Put.{signatures_put}
use Rattle.coset_recipients.specs.PartsFields.{parts}
use Rattle.coset_signed.specs.Fields.{Sign1Fields, SignFields}
use Rattle.coset_recipients.specs.Put.{whole_put, are_received_parts}

abbrev pub sign1_put : Sign1Fields → Tree
sign1_put m = whole_put (parts m.protected m.unprotected m.payload) (bytes m.signature ∷ [])

abbrev pub sign_put : SignFields → Tree
sign_put m = whole_put (parts m.protected m.unprotected m.payload) (array (signatures_put (signatures m.signatures)) ∷ [])

-- the headers are as received
abbrev pub is_received_sign1 : Sign1Fields → Bool
is_received_sign1 m = are_received_parts (parts m.protected m.unprotected m.payload)

abbrev pub is_received_sign : SignFields → Bool
is_received_sign m = are_received_parts (parts m.protected m.unprotected m.payload) && are_received_signatures (signatures m.signatures)
