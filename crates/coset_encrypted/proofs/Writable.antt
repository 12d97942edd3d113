-- What was read can be written, and what its ciphertext covers is there.
use Rattle.std.proofs.Common.{◌≢◌, ℕ, List, None}
use Rattle.ciborium_value.specs.Tree.{Tree}
use Rattle.coset_base.specs.Contexts.{encryption_text}
use Rattle.coset_base.specs.declared.context.EncryptionContext.TheVariants.{CoseEncrypt, CoseEncrypt0}
use Rattle.coset_base.proofs.Writable.{enc_data_some}
use Rattle.coset_headers.proofs.Writable.{prot_some}
use Rattle.coset_encrypted.specs.Fields.{Encrypt0Fields, EncryptFields}
use Rattle.coset_encrypted.specs.Shapes.{HasEncrypt0, HasEncrypt}
use Rattle.coset_encrypted.specs.Structure.{encrypt0_covered, encrypt_covered}
use Rattle.coset_encrypted.specs.Written.{encrypt0_tree, encrypt_tree}
use Rattle.coset_encrypted.proofs.Kept.{encrypt0_kept, encrypt_kept}

pub encrypt0_some : (n : ℕ) (m : Encrypt0Fields) (t : Tree) (k : ℕ) → HasEncrypt0 n t m k → encrypt0_tree m ≢ None
encrypt0_some n m t k h = (encrypt0_kept n m k).some t h

pub encrypt_some : (n : ℕ) (m : EncryptFields) (t : Tree) (k : ℕ) → HasEncrypt n t m k → encrypt_tree m ≢ None
encrypt_some n m t k h = (encrypt_kept n m k).some t h

pub encrypt0_covers : (n : ℕ) (m : Encrypt0Fields) (t : Tree) (k : ℕ) (aad : List ℕ) → HasEncrypt0 n t m k → encrypt0_covered m aad ≢ None
encrypt0_covers n m t k aad h = enc_data_some (encryption_text CoseEncrypt0) m.protected aad (prot_some n m.protected h.first k h.parts.protected)

pub encrypt_covers : (n : ℕ) (m : EncryptFields) (t : Tree) (k : ℕ) (aad : List ℕ) → HasEncrypt n t m k → encrypt_covered m aad ≢ None
encrypt_covers n m t k aad h = enc_data_some (encryption_text CoseEncrypt) m.protected aad (prot_some n m.protected h.first k h.parts.protected)
