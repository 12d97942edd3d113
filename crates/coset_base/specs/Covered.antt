-- What structures are made of.
use Rattle.std.specs.Prelude.{ℕ, ◌^◌, ◌<◌, List, length, Option, Some, None, option_map, option_and_then}
use Rattle.coset_headers.specs.Fields.{ProtectedFields}
use Rattle.coset_headers.specs.Written.{shown}
use Rattle.coset_base.specs.declared.context.SignatureContext.{SignatureContext}
use Rattle.coset_base.specs.declared.context.MacContext.{MacContext}
use Rattle.coset_base.specs.declared.context.EncryptionContext.{EncryptionContext}
use Rattle.coset_base.specs.Contexts.{signature_text, mac_text, encryption_text}
use Rattle.coset_base.specs.Structure.{structure, enc_structure, shown_signer}

-- What a structure of each kind covers: its context, the bytes shown for the body's protected
-- header, in a Sig_structure those shown for the signer's if there is a signer, the external
-- data, and but for an Enc_structure the payload.
pub data Covered : Type 0 where
  signed : SignatureContext → List ℕ → Option (List ℕ) → List ℕ → List ℕ → Covered
  maced : MacContext → List ℕ → List ℕ → List ℕ → Covered
  encrypted : EncryptionContext → List ℕ → List ℕ → Covered

-- the bytes of the structure
abbrev pub covered_bytes : Covered → List ℕ
covered_bytes (signed context body signer aad payload) = structure (signature_text context) body signer aad payload
covered_bytes (maced context body aad payload) = structure (mac_text context) body None aad payload
covered_bytes (encrypted context body aad) = enc_structure (encryption_text context) body aad

-- each part has a length that a head can have
abbrev pub SignerFits : Option (List ℕ) → Type 0
SignerFits None = Unit {0}
SignerFits (Some b) = length b < 2 ^ 64

abbrev pub CoveredFits : Covered → Type 0
CoveredFits (signed context body signer aad payload) =
    (length body < 2 ^ 64) × SignerFits signer × (length aad < 2 ^ 64) × (length payload < 2 ^ 64)
CoveredFits (maced context body aad payload) = (length body < 2 ^ 64) × (length aad < 2 ^ 64) × (length payload < 2 ^ 64)
CoveredFits (encrypted context body aad) = (length body < 2 ^ 64) × (length aad < 2 ^ 64)

-- what the structures of protected headers cover, by the bytes that are shown for these; none if
-- one of them can't be written
abbrev pub covered_by_sig : SignatureContext → ProtectedFields → Option ProtectedFields → List ℕ → List ℕ → Option Covered
covered_by_sig context body signer aad payload =
    option_and_then (λ b. option_map (λ s. signed context b s aad payload) (shown_signer signer)) (shown body)

abbrev pub covered_by_mac : MacContext → ProtectedFields → List ℕ → List ℕ → Option Covered
covered_by_mac context body aad payload = option_map (λ b. maced context b aad payload) (shown body)

abbrev pub covered_by_enc : EncryptionContext → ProtectedFields → List ℕ → Option Covered
covered_by_enc context body aad = option_map (λ b. encrypted context b aad) (shown body)
