-- Which fields a value has as an encrypted message (RFC 9052, sections 5.1 and 5.2). The nesting
-- limit `n` and the layers `k` are those of headers.
use Rattle.std.specs.Prelude.{ℕ, [], ◌∷◌}
use Rattle.ciborium_value.specs.Tree.{Tree}
use Rattle.coset_recipients.specs.PartsFields.{parts}
use Rattle.coset_recipients.specs.PartShapes.{HasWhole}
use Rattle.coset_recipients.specs.Shapes.{HasList}
use Rattle.coset_encrypted.specs.Fields.{Encrypt0Fields, EncryptFields}

-- an array of a protected header, an unprotected one, and the ciphertext or null
abbrev pub HasEncrypt0 : ℕ → Tree → Encrypt0Fields → ℕ → Type 0
HasEncrypt0 n t m k = HasWhole n t (parts m.protected m.unprotected m.ciphertext) [] k

-- an array of these three, and an array of recipients
abbrev pub HasEncrypt : ℕ → Tree → EncryptFields → ℕ → Type 0
HasEncrypt n t m k = HasWhole n t (parts m.protected m.unprotected m.ciphertext) ((λ r. HasList n r m.recipients k) ∷ []) k
