-- What is written of a message fits heads if its parts do.
use Rattle.std.proofs.Common.{◌≡◌, ℕ, List, [], ◌∷◌, Some, arith}
use Rattle.ciborium_value.specs.Tree.{Tree, bytes}
use Rattle.ciborium_value.specs.View.{trees}
use Rattle.ciborium_value.specs.Encoding.{Fits, FitAll}
use Rattle.coset_recipients.specs.PartsFields.{parts}
use Rattle.coset_recipients.specs.PartsShort.{PartsShort}
use Rattle.coset_recipients.specs.PartsWritten.{parts_trees}
use Rattle.coset_recipients.proofs.PartsFit.{parts_short}
use Rattle.coset_recipients.proofs.PartsKept.{some_fits, whole_fits}
use Rattle.coset_recipients.specs.PartShapes.{two_held}
use Rattle.coset_recipients.specs.Short.{RecipientsShort}
use Rattle.coset_recipients.specs.Written.{list_tree}
use Rattle.coset_recipients.proofs.Fit.{recipients_short}
use Rattle.coset_maced.specs.Fields.{Mac0Fields, MacFields}
use Rattle.coset_maced.specs.Shapes.{HasMac0, HasMac}
use Rattle.coset_maced.specs.Short.{Mac0Short, MacShort}
use Rattle.coset_maced.specs.Written.{mac0_tree, mac_tree}

pub mac0_fit : (m : Mac0Fields) (v : Tree) → ((ts : List Tree) → parts_trees (parts m.protected m.unprotected m.payload) ≡ Some ts → PartsShort m.protected m.unprotected → FitAll (trees ts)) → Fits (bytes m.tag) → mac0_tree m ≡ Some v → Mac0Short m → Fits v
mac0_fit m v f g e s = whole_fits m.protected m.unprotected m.payload (Some (bytes m.tag) ∷ []) v f s (λ y q. some_fits (bytes m.tag) y g q, tt) (omega arith) e

pub mac_fit : (m : MacFields) (v : Tree) → ((ts : List Tree) → parts_trees (parts m.protected m.unprotected m.payload) ≡ Some ts → PartsShort m.protected m.unprotected → FitAll (trees ts)) → Fits (bytes m.tag)
    → ((u : Tree) → list_tree m.recipients ≡ Some u → RecipientsShort m.recipients → Fits u) → mac_tree m ≡ Some v → MacShort m → Fits v
mac_fit m v f g l e s = whole_fits m.protected m.unprotected m.payload (Some (bytes m.tag) ∷ list_tree m.recipients ∷ []) v f s.0 (λ y q. some_fits (bytes m.tag) y g q, (λ y q. l y q s.1, tt)) (omega arith) e

-- ---- what was read is short
pub mac0_short : (n : ℕ) (m : Mac0Fields) (t : Tree) (k : ℕ) → HasMac0 n t m k → Mac0Short m
mac0_short n m t k h = parts_short n h.first h.second h.third m.protected m.unprotected m.payload k h.parts

pub mac_short : (n : ℕ) (m : MacFields) (t : Tree) (k : ℕ) → HasMac n t m k → MacShort m
mac_short n m t k h =
    let list = (two_held _ _ h.lasts h.hold).4 in
    (parts_short n h.first h.second h.third m.protected m.unprotected m.payload k h.parts, recipients_short n m.recipients list.0 k list.2)
