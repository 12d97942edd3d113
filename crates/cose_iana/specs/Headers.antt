-- Labels of headers.
use Rattle.std.specs.Prelude.{ℤ, pos, List, [], ◌∷◌, refl}
use Rattle.cose_iana.specs.declared.headers.HeaderParameter.{HeaderParameter}
use Rattle.cose_iana.specs.contracts.headers.HeaderParameter.{enum as header_parameters_enum}
use Rattle.cose_iana.specs.declared.headers.HeaderAlgorithmParameter.{HeaderAlgorithmParameter}
use Rattle.cose_iana.specs.contracts.headers.HeaderAlgorithmParameter.{enum as header_algorithm_parameters_enum}
use Rattle.cose_iana.specs.Registry.{neg, Registry}
use Rattle.cose_iana.specs.Listed.{registry}

-- Labels of headers: the registry "COSE Header Parameters" (RFC 9052, section 3.1).
abbrev pub registered_header_parameters : List (HeaderParameter × ℤ)
registered_header_parameters =
    (HeaderParameter.Reserved, pos 0) ∷ (HeaderParameter.Alg, pos 1) ∷
    (HeaderParameter.Crit, pos 2) ∷ (HeaderParameter.ContentType, pos 3) ∷
    (HeaderParameter.Kid, pos 4) ∷ (HeaderParameter.Iv, pos 5) ∷
    (HeaderParameter.PartialIv, pos 6) ∷ (HeaderParameter.CounterSignature, pos 7) ∷
    (HeaderParameter.CounterSignature0, pos 9) ∷ (HeaderParameter.KidContext, pos 10) ∷
    (HeaderParameter.CounterSignatureV2, pos 11) ∷ (HeaderParameter.CounterSignature0V2, pos 12) ∷
    (HeaderParameter.KeyCwt, pos 13) ∷ (HeaderParameter.KeyCwtClaimsSet, pos 14) ∷
    (HeaderParameter.CwtClaims, pos 15) ∷ (HeaderParameter.ObjectContentType, pos 16) ∷
    (HeaderParameter.X5Bag, pos 32) ∷ (HeaderParameter.X5Chain, pos 33) ∷
    (HeaderParameter.X5T, pos 34) ∷ (HeaderParameter.X5U, pos 35) ∷
    (HeaderParameter.CuphNonce, pos 256) ∷ (HeaderParameter.CuphOwnerPubKey, pos 257) ∷ []

unfoldable pub header_parameters : Registry HeaderParameter
header_parameters = registry header_parameters_enum tt registered_header_parameters refl

-- Labels of headers that one algorithm or another needs: the registry "COSE Header Algorithm
-- Parameters" (RFC 9053, sections 5 and 6).
abbrev pub registered_header_algorithm_parameters : List (HeaderAlgorithmParameter × ℤ)
registered_header_algorithm_parameters =
    (HeaderAlgorithmParameter.X5ChainSender, neg 29) ∷
    (HeaderAlgorithmParameter.X5USender, neg 28) ∷ (HeaderAlgorithmParameter.X5TSender, neg 27) ∷
    (HeaderAlgorithmParameter.PartyVOther, neg 26) ∷
    (HeaderAlgorithmParameter.PartyVNonce, neg 25) ∷
    (HeaderAlgorithmParameter.PartyVIdentity, neg 24) ∷
    (HeaderAlgorithmParameter.PartyUOther, neg 23) ∷
    (HeaderAlgorithmParameter.PartyUNonce, neg 22) ∷
    (HeaderAlgorithmParameter.PartyUIdentity, neg 21) ∷ (HeaderAlgorithmParameter.Salt, neg 20) ∷
    (HeaderAlgorithmParameter.StaticKeyId, neg 3) ∷ (HeaderAlgorithmParameter.StaticKey, neg 2) ∷
    (HeaderAlgorithmParameter.EphemeralKey, neg 1) ∷ []

unfoldable pub header_algorithm_parameters : Registry HeaderAlgorithmParameter
header_algorithm_parameters = registry header_algorithm_parameters_enum tt registered_header_algorithm_parameters refl
