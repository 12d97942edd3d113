-- What is as received is written straight from its fields as what is written of it.
use Rattle.std.proofs.Common.{◌≡◌, [], ◌∷◌, true, Some, option_map, option_and_then, refl, ap}
use Rattle.std.proofs.lemmas.Bool.{and_parts}
use Rattle.ciborium_value.specs.Tree.{bytes, array}
use Rattle.coset_recipients.specs.Written.{list_tree}
use Rattle.coset_maced.specs.Fields.{Mac0Fields, MacFields}
use Rattle.coset_maced.specs.Written.{mac0_tree, mac_tree}
use Rattle.coset_recipients.specs.Put.{recipients_put}
use Rattle.coset_maced.specs.Put.{mac0_put, mac_put, is_received_mac0, is_received_mac}
use Rattle.coset_recipients.proofs.PutWritten.{whole_written, list_written}

pub mac0_written : (m : Mac0Fields) → is_received_mac0 m ≡ true → mac0_tree m ≡ Some (mac0_put m)
mac0_written m r = whole_written m.protected m.unprotected m.payload (Some (bytes m.tag) ∷ []) (bytes m.tag ∷ []) r refl

pub mac_written : (m : MacFields) → is_received_mac m ≡ true → mac_tree m ≡ Some (mac_put m)
mac_written m r =
    let q = and_parts _ _ r in
    let b = bytes m.tag in
    let x = array (recipients_put m.recipients) in
    whole_written m.protected m.unprotected m.payload (Some b ∷ list_tree m.recipients ∷ []) (b ∷ x ∷ []) q.0
    (ap (λ z. option_map (λ ts. b ∷ ts) (option_and_then (λ t. Some (t ∷ [])) z)) (list_written m.recipients q.1))
