-- What is written straight from the fields of a message that is as received.
use Rattle.std.proofs.Common.{◌≡◌, ℕ, true, Option, Some, ap, sym}
use Rattle.std.specs.Prelude.{option_map}
use Rattle.ciborium_value.specs.Encoding.{enc}
use Rattle.ciborium_value.specs.Tree.{Tree, tag}
use Rattle.cose_gate.specs.Questions.{message_text, or_nothing}
use Rattle.coset_signed.specs.Put.{sign1_put, sign_put, is_received_sign1, is_received_sign}
use Rattle.coset_maced.specs.Put.{mac0_put, mac_put, is_received_mac0, is_received_mac}
use Rattle.coset.specs.MacedFields.{Mac0Fields, MacFields}
use Rattle.coset.specs.MacedView.{mac0_view, mac_view}
use Rattle.coset.specs.MacedWritten.{mac0_tree, mac_tree}
use Rattle.coset.specs.SignedFields.{Sign1Fields, SignFields}
use Rattle.coset.specs.SignedView.{sign1_view, sign_view}
use Rattle.coset.specs.SignedWritten.{sign1_tree, sign_tree}
use Rattle.callers.specs.Tagged.{fields_of, tagged_put, is_as_received}
use Rattle.callers.specs.declared.tagged.Message.{Message}
use Rattle.callers.specs.declared.tagged.Message.TheVariants.{Sign1, Mac0, Sign, Mac}

-- the encoding under a tag of what is written, if that is one tree
text_of : (n : ℕ) (o : Option Tree) (put : Tree) → o ≡ Some put
    → enc (tag n put) ≡ or_nothing (option_map enc (option_map (λ t. tag n t) o))
text_of n o put e = sym (ap (λ (o : Option Tree). or_nothing (option_map enc (option_map (λ t. tag n t) o))) e)

pub gate_text : ((m : Sign1Fields) → is_received_sign1 m ≡ true → sign1_tree m ≡ Some (sign1_put m))
    → ((m : Mac0Fields) → is_received_mac0 m ≡ true → mac0_tree m ≡ Some (mac0_put m))
    → ((m : SignFields) → is_received_sign m ≡ true → sign_tree m ≡ Some (sign_put m))
    → ((m : MacFields) → is_received_mac m ≡ true → mac_tree m ≡ Some (mac_put m))
    → (message : Message) → is_as_received message ≡ true → enc (tagged_put message) ≡ message_text (fields_of message)
gate_text one two three four (Sign1 m) r = text_of 18 _ _ (one (sign1_view m.now) r)
gate_text one two three four (Mac0 m) r = text_of 17 _ _ (two (mac0_view m.now) r)
gate_text one two three four (Sign m) r = text_of 98 _ _ (three (sign_view m.now) r)
gate_text one two three four (Mac m) r = text_of 97 _ _ (four (mac_view m.now) r)
