-- Which fault a value has as an encrypted message (RFC 9052, sections 5.1 and 5.2). A value may
-- have several. The nesting limit `n` and the layers `k` are those of the fields.
use Rattle.std.specs.Prelude.{ℕ, [], ◌∷◌}
use Rattle.ciborium_value.specs.Tree.{Tree}
use Rattle.coset_labels.specs.Faults.{CoseFault}
use Rattle.coset_recipients.specs.WrongParts.{WrongWhole}
use Rattle.coset_recipients.specs.Wrong.{WrongList}

-- no array, one of another length, or one of its parts
abbrev pub WrongEncrypt0 : ℕ → Tree → ℕ → CoseFault → Type 0
WrongEncrypt0 n t k e = WrongWhole n t [] k e

-- the same, or a fault of its recipients
abbrev pub WrongEncrypt : ℕ → Tree → ℕ → CoseFault → Type 0
WrongEncrypt n t k e = WrongWhole n t ((λ r f. WrongList n r k f) ∷ []) k e
