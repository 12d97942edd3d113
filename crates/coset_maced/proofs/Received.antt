-- What was read is as received.
use Rattle.std.proofs.Common.{◌≡◌, ℕ, true}
use Rattle.std.proofs.lemmas.Bool.{and_from}
use Rattle.ciborium_value.specs.Tree.{Tree}
use Rattle.coset_recipients.specs.PartsFields.{parts}
use Rattle.coset_recipients.specs.PartShapes.{two_held}
use Rattle.coset_maced.specs.Fields.{Mac0Fields, MacFields}
use Rattle.coset_maced.specs.Shapes.{HasMac0, HasMac}
use Rattle.coset_maced.specs.Put.{is_received_mac0, is_received_mac}
use Rattle.coset_recipients.proofs.Received.{parts_received, list_received}

pub mac0_received : (n : ℕ) (m : Mac0Fields) (t : Tree) (k : ℕ) → HasMac0 n t m k → is_received_mac0 m ≡ true
mac0_received n m t k h = parts_received n h.first h.second h.third m.protected m.unprotected m.payload k h.parts

pub mac_received : (n : ℕ) (m : MacFields) (t : Tree) (k : ℕ) → HasMac n t m k → is_received_mac m ≡ true
mac_received n m t k h =
    let w = two_held _ _ h.lasts h.hold in
    and_from _ _ (parts_received n h.first h.second h.third m.protected m.unprotected m.payload k h.parts) (list_received n m.recipients w.1 k w.4)
