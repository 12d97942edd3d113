-- Labels, types, curves and operations of keys.
use Rattle.std.specs.Prelude.{ℤ, pos, List, [], ◌∷◌, refl}
use Rattle.cose_iana.specs.declared.keys.KeyParameter.{KeyParameter}
use Rattle.cose_iana.specs.contracts.keys.KeyParameter.{enum as key_parameters_enum}
use Rattle.cose_iana.specs.declared.keys.KeyType.{KeyType}
use Rattle.cose_iana.specs.contracts.keys.KeyType.{enum as key_types_enum}
use Rattle.cose_iana.specs.declared.keys.EllipticCurve.{EllipticCurve}
use Rattle.cose_iana.specs.contracts.keys.EllipticCurve.{enum as elliptic_curves_enum}
use Rattle.cose_iana.specs.declared.keys.KeyOperation.{KeyOperation}
use Rattle.cose_iana.specs.contracts.keys.KeyOperation.{enum as key_operations_enum}
use Rattle.cose_iana.specs.Registry.{Registry}
use Rattle.cose_iana.specs.Listed.{registry}

-- Labels of keys of every type: the registry "COSE Key Common Parameters" (RFC 9052, section 7.1).
abbrev pub registered_key_parameters : List (KeyParameter × ℤ)
registered_key_parameters =
    (KeyParameter.Reserved, pos 0) ∷ (KeyParameter.Kty, pos 1) ∷ (KeyParameter.Kid, pos 2) ∷
    (KeyParameter.Alg, pos 3) ∷ (KeyParameter.KeyOps, pos 4) ∷ (KeyParameter.BaseIv, pos 5) ∷ []

unfoldable pub key_parameters : Registry KeyParameter
key_parameters = registry key_parameters_enum tt registered_key_parameters refl

-- Types of keys: the registry "COSE Key Types" (RFC 9053, section 7).
abbrev pub registered_key_types : List (KeyType × ℤ)
registered_key_types =
    (KeyType.Reserved, pos 0) ∷ (KeyType.OKP, pos 1) ∷ (KeyType.EC2, pos 2) ∷ (KeyType.RSA, pos 3) ∷
    (KeyType.Symmetric, pos 4) ∷ (KeyType.HSS_LMS, pos 5) ∷ (KeyType.WalnutDSA, pos 6) ∷
    (KeyType.AKP, pos 7) ∷ []

unfoldable pub key_types : Registry KeyType
key_types = registry key_types_enum tt registered_key_types refl

-- Curves: the registry "COSE Elliptic Curves" (RFC 9053, section 7.1).
abbrev pub registered_elliptic_curves : List (EllipticCurve × ℤ)
registered_elliptic_curves =
    (EllipticCurve.Reserved, pos 0) ∷ (EllipticCurve.P_256, pos 1) ∷ (EllipticCurve.P_384, pos 2) ∷
    (EllipticCurve.P_521, pos 3) ∷ (EllipticCurve.X25519, pos 4) ∷ (EllipticCurve.X448, pos 5) ∷
    (EllipticCurve.Ed25519, pos 6) ∷ (EllipticCurve.Ed448, pos 7) ∷
    (EllipticCurve.Secp256k1, pos 8) ∷ (EllipticCurve.BrainpoolP256R1, pos 256) ∷
    (EllipticCurve.BrainpoolP320R1, pos 257) ∷ (EllipticCurve.BrainpoolP384R1, pos 258) ∷
    (EllipticCurve.BrainpoolP512R1, pos 259) ∷ []

unfoldable pub elliptic_curves : Registry EllipticCurve
elliptic_curves = registry elliptic_curves_enum tt registered_elliptic_curves refl

-- What a key may be used for: the values of `key_ops` (RFC 9052, section 7.1).
abbrev pub registered_key_operations : List (KeyOperation × ℤ)
registered_key_operations =
    (KeyOperation.Sign, pos 1) ∷ (KeyOperation.Verify, pos 2) ∷ (KeyOperation.Encrypt, pos 3) ∷
    (KeyOperation.Decrypt, pos 4) ∷ (KeyOperation.WrapKey, pos 5) ∷
    (KeyOperation.UnwrapKey, pos 6) ∷ (KeyOperation.DeriveKey, pos 7) ∷
    (KeyOperation.DeriveBits, pos 8) ∷ (KeyOperation.MacCreate, pos 9) ∷
    (KeyOperation.MacVerify, pos 10) ∷ []

unfoldable pub key_operations : Registry KeyOperation
key_operations = registry key_operations_enum tt registered_key_operations refl
