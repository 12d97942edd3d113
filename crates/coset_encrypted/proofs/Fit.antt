-- What is written of a message fits heads if its parts do.
use Rattle.std.proofs.Common.{◌≡◌, ℕ, List, [], ◌∷◌, Some, arith}
use Rattle.ciborium_value.specs.Tree.{Tree}
use Rattle.ciborium_value.specs.View.{trees}
use Rattle.ciborium_value.specs.Encoding.{Fits, FitAll}
use Rattle.coset_recipients.specs.PartsFields.{parts}
use Rattle.coset_recipients.specs.PartsShort.{PartsShort}
use Rattle.coset_recipients.specs.PartsWritten.{parts_trees}
use Rattle.coset_recipients.proofs.PartsFit.{parts_short}
use Rattle.coset_recipients.proofs.PartsKept.{whole_fits}
use Rattle.coset_recipients.specs.PartShapes.{one_held}
use Rattle.coset_recipients.specs.Short.{RecipientsShort}
use Rattle.coset_recipients.specs.Written.{list_tree}
use Rattle.coset_recipients.proofs.Fit.{recipients_short}
use Rattle.coset_encrypted.specs.Fields.{Encrypt0Fields, EncryptFields}
use Rattle.coset_encrypted.specs.Shapes.{HasEncrypt0, HasEncrypt}
use Rattle.coset_encrypted.specs.Short.{Encrypt0Short, EncryptShort}
use Rattle.coset_encrypted.specs.Written.{encrypt0_tree, encrypt_tree}

pub encrypt0_fit : (m : Encrypt0Fields) (v : Tree) → ((ts : List Tree) → parts_trees (parts m.protected m.unprotected m.ciphertext) ≡ Some ts → PartsShort m.protected m.unprotected → FitAll (trees ts)) → encrypt0_tree m ≡ Some v → Encrypt0Short m → Fits v
encrypt0_fit m v f e s = whole_fits m.protected m.unprotected m.ciphertext [] v f s tt (omega arith) e

pub encrypt_fit : (m : EncryptFields) (v : Tree) → ((ts : List Tree) → parts_trees (parts m.protected m.unprotected m.ciphertext) ≡ Some ts → PartsShort m.protected m.unprotected → FitAll (trees ts))
    → ((u : Tree) → list_tree m.recipients ≡ Some u → RecipientsShort m.recipients → Fits u) → encrypt_tree m ≡ Some v → EncryptShort m → Fits v
encrypt_fit m v f l e s = whole_fits m.protected m.unprotected m.ciphertext (list_tree m.recipients ∷ []) v f s.0 (λ y q. l y q s.1, tt) (omega arith) e

-- ---- what was read is short
pub encrypt0_short : (n : ℕ) (m : Encrypt0Fields) (t : Tree) (k : ℕ) → HasEncrypt0 n t m k → Encrypt0Short m
encrypt0_short n m t k h = parts_short n h.first h.second h.third m.protected m.unprotected m.ciphertext k h.parts

pub encrypt_short : (n : ℕ) (m : EncryptFields) (t : Tree) (k : ℕ) → HasEncrypt n t m k → EncryptShort m
encrypt_short n m t k h =
    let list = (one_held _ h.lasts h.hold).2 in
    (parts_short n h.first h.second h.third m.protected m.unprotected m.ciphertext k h.parts, recipients_short n m.recipients list.0 k list.2)
