-- What is as received is written straight from its fields as what is written of it.
use Rattle.std.proofs.Common.{◌≡◌, List, [], ◌∷◌, map, true, Some, option_map, option_and_then, refl, ap, ◌∙◌}
use Rattle.std.proofs.lemmas.Bool.{and_parts}
use Rattle.ciborium_value.specs.Tree.{bytes, array, one_more}
use Rattle.ciborium_value.specs.View.{trees}
use Rattle.coset_labels.specs.Arrays.{all_written, array_of}
use Rattle.coset_headers.specs.Fields.{SignatureFields, signatures}
use Rattle.coset_headers.specs.Written.{signature_tree}
use Rattle.coset_headers.specs.Received.{are_received_signatures}
use Rattle.coset_base.specs.Put.{signature_put, signatures_put}
use Rattle.coset_base.proofs.Received.{sig_written}
use Rattle.coset_signed.specs.Fields.{Sign1Fields, SignFields}
use Rattle.coset_signed.specs.Written.{sign1_tree, sign_tree}
use Rattle.coset_signed.specs.Put.{sign1_put, sign_put, is_received_sign1, is_received_sign}
use Rattle.coset_recipients.proofs.PutWritten.{whole_written}

all_signatures : (ss : List SignatureFields) → are_received_signatures (signatures ss) ≡ true → all_written signature_tree ss ≡ Some (map signature_put ss)
all_signatures [] r = refl
all_signatures (s ∷ ss) r =
    let q = and_parts _ _ r in
    ap (option_and_then (λ t. option_map (λ ts. t ∷ ts) (all_written signature_tree ss))) (sig_written s q.0)
    ∙ ap (option_map (λ ts. signature_put s ∷ ts)) (all_signatures ss q.1)

as_trees : (ss : List SignatureFields) → trees (map signature_put ss) ≡ signatures_put (signatures ss)
as_trees [] = refl
as_trees (s ∷ ss) = ap (one_more (signature_put s)) (as_trees ss)

signatures_written : (ss : List SignatureFields) → are_received_signatures (signatures ss) ≡ true → array_of signature_tree ss ≡ Some (array (signatures_put (signatures ss)))
signatures_written ss r = ap (option_map (λ ts. array (trees ts))) (all_signatures ss r) ∙ ap (λ z. Some (array z)) (as_trees ss)

pub sign1_written : (m : Sign1Fields) → is_received_sign1 m ≡ true → sign1_tree m ≡ Some (sign1_put m)
sign1_written m r = whole_written m.protected m.unprotected m.payload (Some (bytes m.signature) ∷ []) (bytes m.signature ∷ []) r refl

pub sign_written : (m : SignFields) → is_received_sign m ≡ true → sign_tree m ≡ Some (sign_put m)
sign_written m r =
    let q = and_parts _ _ r in
    let x = array (signatures_put (signatures m.signatures)) in
    whole_written m.protected m.unprotected m.payload (array_of signature_tree m.signatures ∷ []) (x ∷ []) q.0
    (ap (option_and_then (λ t. Some (t ∷ []))) (signatures_written m.signatures q.1))
