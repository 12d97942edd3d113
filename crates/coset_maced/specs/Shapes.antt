-- Which fields a value has as an authenticated message (RFC 9052, sections 6.1 and 6.2). The
-- nesting limit `n` and the layers `k` are those of headers.
use Rattle.std.specs.Prelude.{◌≡◌, ℕ, [], ◌∷◌}
use Rattle.ciborium_value.specs.Tree.{Tree, bytes}
use Rattle.coset_recipients.specs.PartsFields.{parts}
use Rattle.coset_recipients.specs.PartShapes.{HasWhole}
use Rattle.coset_recipients.specs.Shapes.{HasList}
use Rattle.coset_maced.specs.Fields.{Mac0Fields, MacFields}

-- an array of a protected header, an unprotected one, the payload or null, and the tag
abbrev pub HasMac0 : ℕ → Tree → Mac0Fields → ℕ → Type 0
HasMac0 n t m k = HasWhole n t (parts m.protected m.unprotected m.payload) ((λ d. d ≡ bytes m.tag) ∷ []) k

-- the same, and an array of recipients
abbrev pub HasMac : ℕ → Tree → MacFields → ℕ → Type 0
HasMac n t m k = HasWhole n t (parts m.protected m.unprotected m.payload) ((λ d. d ≡ bytes m.tag) ∷ (λ r. HasList n r m.recipients k) ∷ []) k
