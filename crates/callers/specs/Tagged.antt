-- The fields of a message of any kind, and what is written straight from them.
use Rattle.std.specs.Prelude.{Bool}
use Rattle.ciborium_value.specs.Tree.{Tree, tag}
use Rattle.cose_gate.specs.Questions.{MessageFields, sign1, mac0, sign, mac}
use Rattle.coset_signed.specs.Put.{sign1_put, sign_put, is_received_sign1, is_received_sign}
use Rattle.coset_maced.specs.Put.{mac0_put, mac_put, is_received_mac0, is_received_mac}
use Rattle.coset.specs.MacedView.{mac0_view, mac_view}
use Rattle.coset.specs.SignedView.{sign1_view, sign_view}
use Rattle.callers.specs.declared.tagged.Message.{Message}
use Rattle.callers.specs.declared.tagged.Message.TheVariants.{Sign1, Mac0, Sign, Mac}

abbrev pub fields_of : Message → MessageFields
fields_of (Sign1 m) = sign1 (sign1_view m.now)
fields_of (Mac0 m) = mac0 (mac0_view m.now)
fields_of (Sign m) = sign (sign_view m.now)
fields_of (Mac m) = mac (mac_view m.now)

-- the message in its tag
abbrev pub tagged_put : Message → Tree
tagged_put (Sign1 m) = tag 18 (sign1_put (sign1_view m.now))
tagged_put (Mac0 m) = tag 17 (mac0_put (mac0_view m.now))
tagged_put (Sign m) = tag 98 (sign_put (sign_view m.now))
tagged_put (Mac m) = tag 97 (mac_put (mac_view m.now))

abbrev pub is_as_received : Message → Bool
is_as_received (Sign1 m) = is_received_sign1 (sign1_view m.now)
is_as_received (Mac0 m) = is_received_mac0 (mac0_view m.now)
is_as_received (Sign m) = is_received_sign (sign_view m.now)
is_as_received (Mac m) = is_received_mac (mac_view m.now)
