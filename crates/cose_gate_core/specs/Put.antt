-- What a message is written as straight from its fields, and with its tag. Of one that was read it
-- is what `message_tree` and `tagged_tree` give.
use Rattle.std.specs.Prelude.{Bool}
use Rattle.ciborium_value.specs.Tree.{Tree, tag}
use Rattle.coset_signed.specs.Put.{sign1_put, sign_put, is_received_sign1, is_received_sign}
use Rattle.coset_maced.specs.Put.{mac0_put, mac_put, is_received_mac0, is_received_mac}
use Rattle.cose_gate_core.specs.Questions.{MessageFields, sign1, mac0, sign, mac, tag_of}

abbrev pub message_put : MessageFields → Tree
message_put (sign1 m) = sign1_put m
message_put (mac0 m) = mac0_put m
message_put (sign m) = sign_put m
message_put (mac m) = mac_put m

abbrev pub tagged_put : MessageFields → Tree
tagged_put m = tag (tag_of m) (message_put m)

-- its headers are as received, as those of each message that was read
abbrev pub is_as_received : MessageFields → Bool
is_as_received (sign1 m) = is_received_sign1 m
is_as_received (mac0 m) = is_received_mac0 m
is_as_received (sign m) = is_received_sign m
is_as_received (mac m) = is_received_mac m
