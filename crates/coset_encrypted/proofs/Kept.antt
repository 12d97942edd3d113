-- What is written of a message that was read has its fields again, nests no deeper, and is read
-- again.
use Rattle.std.proofs.Common.{ℕ, [], ◌∷◌}
use Rattle.coset_recipients.proofs.PartsKept.{Kept, whole_kept}
use Rattle.coset_recipients.specs.Written.{list_tree}
use Rattle.coset_recipients.proofs.Kept.{list_kept}
use Rattle.coset_encrypted.specs.Fields.{Encrypt0Fields, EncryptFields}
use Rattle.coset_encrypted.specs.Shapes.{HasEncrypt0, HasEncrypt}
use Rattle.coset_encrypted.specs.Written.{encrypt0_tree, encrypt_tree}

pub encrypt0_kept : (n : ℕ) (m : Encrypt0Fields) (k : ℕ) → Kept (λ t. HasEncrypt0 n t m k) (encrypt0_tree m)
encrypt0_kept n m k = whole_kept n m.protected m.unprotected m.ciphertext _ [] k tt

pub encrypt_kept : (n : ℕ) (m : EncryptFields) (k : ℕ) → Kept (λ t. HasEncrypt n t m k) (encrypt_tree m)
encrypt_kept n m k = whole_kept n m.protected m.unprotected m.ciphertext _ (list_tree m.recipients ∷ []) k (list_kept n m.recipients k, tt)
