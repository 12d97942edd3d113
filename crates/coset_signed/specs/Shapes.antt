-- Which fields a value has as a signed message (RFC 9052, sections 4.1 and 4.2). The nesting limit
-- `n` and the layers `k` are those of headers.
use Rattle.std.specs.Prelude.{◌≡◌, ℕ, List, [], ◌∷◌}
use Rattle.ciborium_value.specs.Tree.{Tree, bytes, array, Trees}
use Rattle.coset_headers.specs.Fields.{SignatureFields, signatures}
use Rattle.coset_headers.specs.Headers.{HasSignatures}
use Rattle.coset_recipients.specs.PartsFields.{parts}
use Rattle.coset_recipients.specs.PartShapes.{HasWhole}
use Rattle.coset_signed.specs.Fields.{Sign1Fields, SignFields}

-- signatures, one after another
abbrev pub IsSignatureList : ℕ → Tree → List SignatureFields → ℕ → Type 0
IsSignatureList n t ss k = (ts : Trees) × (t ≡ array ts) × HasSignatures n ts (signatures ss) k

-- a COSE_Sign1 (section 4.2): an array of a protected header, an unprotected one, the payload or
-- null, and the signature
abbrev pub HasSign1 : ℕ → Tree → Sign1Fields → ℕ → Type 0
HasSign1 n t m k = HasWhole n t (parts m.protected m.unprotected m.payload) ((λ d. d ≡ bytes m.signature) ∷ []) k

-- a COSE_Sign (section 4.1): the same, and last the list of signatures, which may be empty
abbrev pub HasSign : ℕ → Tree → SignFields → ℕ → Type 0
HasSign n t m k = HasWhole n t (parts m.protected m.unprotected m.payload) ((λ d. IsSignatureList n d m.signatures k) ∷ []) k
