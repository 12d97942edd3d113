-- What was read is as received.
use Rattle.std.proofs.Common.{◌≡◌, ℕ, List, [], ◌∷◌, true, refl}
use Rattle.std.proofs.lemmas.Bool.{and_from}
use Rattle.ciborium_value.specs.Tree.{Tree, Trees}
use Rattle.coset_headers.specs.Fields.{SignatureFields, signatures}
use Rattle.coset_headers.specs.Headers.{HasSignatures}
use Rattle.coset_headers.specs.Received.{are_received_signatures}
use Rattle.coset_base.proofs.Received.{sig_received}
use Rattle.coset_recipients.specs.PartsFields.{parts}
use Rattle.coset_recipients.specs.PartShapes.{one_held}
use Rattle.coset_signed.specs.Fields.{Sign1Fields, SignFields}
use Rattle.coset_signed.specs.Shapes.{HasSign1, HasSign}
use Rattle.coset_signed.specs.Put.{is_received_sign1, is_received_sign}
use Rattle.coset_recipients.proofs.Received.{parts_received}

all_received : (n : ℕ) (ss : List SignatureFields) (ts : Trees) (k : ℕ) → HasSignatures n ts (signatures ss) k → are_received_signatures (signatures ss) ≡ true
all_received n [] ts k a = refl
all_received n (s ∷ ss) ts k a = and_from _ _ (sig_received n s a.0 k a.3) (all_received n ss a.1 k a.4)

pub sign1_received : (n : ℕ) (m : Sign1Fields) (t : Tree) (k : ℕ) → HasSign1 n t m k → is_received_sign1 m ≡ true
sign1_received n m t k h = parts_received n h.first h.second h.third m.protected m.unprotected m.payload k h.parts

pub sign_received : (n : ℕ) (m : SignFields) (t : Tree) (k : ℕ) → HasSign n t m k → is_received_sign m ≡ true
sign_received n m t k h =
    let w = (one_held _ h.lasts h.hold).2 in
    and_from _ _ (parts_received n h.first h.second h.third m.protected m.unprotected m.payload k h.parts) (all_received n m.signatures w.0 k w.2)
