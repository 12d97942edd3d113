-- What is written of a message that was read has its fields again, nests no deeper, and is read
-- again.
use Rattle.std.proofs.Common.{ℕ, [], ◌∷◌, Some}
use Rattle.ciborium_value.specs.Tree.{bytes}
use Rattle.coset_recipients.proofs.PartsKept.{Kept, bytes_kept, whole_kept}
use Rattle.coset_recipients.specs.Written.{list_tree}
use Rattle.coset_recipients.proofs.Kept.{list_kept}
use Rattle.coset_maced.specs.Fields.{Mac0Fields, MacFields}
use Rattle.coset_maced.specs.Shapes.{HasMac0, HasMac}
use Rattle.coset_maced.specs.Written.{mac0_tree, mac_tree}

pub mac0_kept : (n : ℕ) (m : Mac0Fields) (k : ℕ) → Kept (λ t. HasMac0 n t m k) (mac0_tree m)
mac0_kept n m k = whole_kept n m.protected m.unprotected m.payload _ (Some (bytes m.tag) ∷ []) k (bytes_kept m.tag, tt)

pub mac_kept : (n : ℕ) (m : MacFields) (k : ℕ) → Kept (λ t. HasMac n t m k) (mac_tree m)
mac_kept n m k = whole_kept n m.protected m.unprotected m.payload _ (Some (bytes m.tag) ∷ list_tree m.recipients ∷ []) k (bytes_kept m.tag, (list_kept n m.recipients k, tt))
