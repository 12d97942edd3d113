-- Labels of keys of one type.
use Rattle.std.specs.Prelude.{ℤ, List, [], ◌∷◌, refl}
use Rattle.cose_iana.specs.declared.key_parameters.OkpKeyParameter.{OkpKeyParameter}
use Rattle.cose_iana.specs.contracts.key_parameters.OkpKeyParameter.{enum as okp_key_parameters_enum}
use Rattle.cose_iana.specs.declared.key_parameters.Ec2KeyParameter.{Ec2KeyParameter}
use Rattle.cose_iana.specs.contracts.key_parameters.Ec2KeyParameter.{enum as ec2_key_parameters_enum}
use Rattle.cose_iana.specs.declared.key_parameters.RsaKeyParameter.{RsaKeyParameter}
use Rattle.cose_iana.specs.contracts.key_parameters.RsaKeyParameter.{enum as rsa_key_parameters_enum}
use Rattle.cose_iana.specs.declared.key_parameters.SymmetricKeyParameter.{SymmetricKeyParameter}
use Rattle.cose_iana.specs.contracts.key_parameters.SymmetricKeyParameter.{enum as symmetric_key_parameters_enum}
use Rattle.cose_iana.specs.declared.key_parameters.HssLmsKeyParameter.{HssLmsKeyParameter}
use Rattle.cose_iana.specs.contracts.key_parameters.HssLmsKeyParameter.{enum as hss_lms_key_parameters_enum}
use Rattle.cose_iana.specs.declared.key_parameters.WalnutDsaKeyParameter.{WalnutDsaKeyParameter}
use Rattle.cose_iana.specs.contracts.key_parameters.WalnutDsaKeyParameter.{enum as walnut_dsa_key_parameters_enum}
use Rattle.cose_iana.specs.declared.key_parameters.AkpKeyParameter.{AkpKeyParameter}
use Rattle.cose_iana.specs.contracts.key_parameters.AkpKeyParameter.{enum as akp_key_parameters_enum}
use Rattle.cose_iana.specs.Registry.{neg, Registry}
use Rattle.cose_iana.specs.Listed.{registry}

-- Labels of keys of the type OKP, from the registry "COSE Key Type Parameters" (RFC 9053, section
-- 7.2).
abbrev pub registered_okp_key_parameters : List (OkpKeyParameter × ℤ)
registered_okp_key_parameters =
    (OkpKeyParameter.D, neg 4) ∷ (OkpKeyParameter.X, neg 2) ∷ (OkpKeyParameter.Crv, neg 1) ∷ []

unfoldable pub okp_key_parameters : Registry OkpKeyParameter
okp_key_parameters = registry okp_key_parameters_enum tt registered_okp_key_parameters refl

-- Labels of keys of the type EC2, from the registry "COSE Key Type Parameters" (RFC 9053, section
-- 7.1.1).
abbrev pub registered_ec2_key_parameters : List (Ec2KeyParameter × ℤ)
registered_ec2_key_parameters =
    (Ec2KeyParameter.D, neg 4) ∷ (Ec2KeyParameter.Y, neg 3) ∷ (Ec2KeyParameter.X, neg 2) ∷
    (Ec2KeyParameter.Crv, neg 1) ∷ []

unfoldable pub ec2_key_parameters : Registry Ec2KeyParameter
ec2_key_parameters = registry ec2_key_parameters_enum tt registered_ec2_key_parameters refl

-- Labels of keys of the type RSA, from the registry "COSE Key Type Parameters" (RFC 8230).
abbrev pub registered_rsa_key_parameters : List (RsaKeyParameter × ℤ)
registered_rsa_key_parameters =
    (RsaKeyParameter.TI, neg 12) ∷ (RsaKeyParameter.DI, neg 11) ∷ (RsaKeyParameter.RI, neg 10) ∷
    (RsaKeyParameter.Other, neg 9) ∷ (RsaKeyParameter.QInv, neg 8) ∷ (RsaKeyParameter.DQ, neg 7) ∷
    (RsaKeyParameter.DP, neg 6) ∷ (RsaKeyParameter.Q, neg 5) ∷ (RsaKeyParameter.P, neg 4) ∷
    (RsaKeyParameter.D, neg 3) ∷ (RsaKeyParameter.E, neg 2) ∷ (RsaKeyParameter.N, neg 1) ∷ []

unfoldable pub rsa_key_parameters : Registry RsaKeyParameter
rsa_key_parameters = registry rsa_key_parameters_enum tt registered_rsa_key_parameters refl

-- Labels of symmetric keys, from the registry "COSE Key Type Parameters" (RFC 9053, section 7.3).
abbrev pub registered_symmetric_key_parameters : List (SymmetricKeyParameter × ℤ)
registered_symmetric_key_parameters =
    (SymmetricKeyParameter.K, neg 1) ∷ []

unfoldable pub symmetric_key_parameters : Registry SymmetricKeyParameter
symmetric_key_parameters = registry symmetric_key_parameters_enum tt registered_symmetric_key_parameters refl

-- Labels of keys of the type HSS-LMS, from the registry "COSE Key Type Parameters" (RFC 8778).
abbrev pub registered_hss_lms_key_parameters : List (HssLmsKeyParameter × ℤ)
registered_hss_lms_key_parameters =
    (HssLmsKeyParameter.Pub, neg 1) ∷ []

unfoldable pub hss_lms_key_parameters : Registry HssLmsKeyParameter
hss_lms_key_parameters = registry hss_lms_key_parameters_enum tt registered_hss_lms_key_parameters refl

-- Labels of keys of the type WalnutDSA, from the registry "COSE Key Type Parameters" (RFC 9021).
abbrev pub registered_walnut_dsa_key_parameters : List (WalnutDsaKeyParameter × ℤ)
registered_walnut_dsa_key_parameters =
    (WalnutDsaKeyParameter.Matrix2, neg 6) ∷ (WalnutDsaKeyParameter.Permutation1, neg 5) ∷
    (WalnutDsaKeyParameter.Matrix1, neg 4) ∷ (WalnutDsaKeyParameter.TValues, neg 3) ∷
    (WalnutDsaKeyParameter.Q, neg 2) ∷ (WalnutDsaKeyParameter.N, neg 1) ∷ []

unfoldable pub walnut_dsa_key_parameters : Registry WalnutDsaKeyParameter
walnut_dsa_key_parameters = registry walnut_dsa_key_parameters_enum tt registered_walnut_dsa_key_parameters refl

-- Labels of keys of the type AKP, from the registry "COSE Key Type Parameters".
abbrev pub registered_akp_key_parameters : List (AkpKeyParameter × ℤ)
registered_akp_key_parameters =
    (AkpKeyParameter.Priv, neg 2) ∷ (AkpKeyParameter.Pub, neg 1) ∷ []

unfoldable pub akp_key_parameters : Registry AkpKeyParameter
akp_key_parameters = registry akp_key_parameters_enum tt registered_akp_key_parameters refl
