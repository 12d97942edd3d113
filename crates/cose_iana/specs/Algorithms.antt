-- Algorithms.
use Rattle.std.specs.Prelude.{ℤ, pos, Bool, List, [], ◌∷◌, refl}
use Rattle.cose_iana.specs.declared.algorithm.Algorithm.{Algorithm}
use Rattle.cose_iana.specs.contracts.algorithm.Algorithm.{enum as algorithms_enum}
use Rattle.cose_iana.specs.Registry.{neg, Registry}
use Rattle.cose_iana.specs.Listed.{registry}

-- Algorithms: the registry "COSE Algorithms" (RFC 9053).
abbrev pub registered_algorithms : List (Algorithm × ℤ)
registered_algorithms =
    (Algorithm.RS1, neg 65535) ∷ (Algorithm.AesCtr128, neg 65534) ∷
    (Algorithm.AesCtr192, neg 65533) ∷ (Algorithm.AesCtr256, neg 65532) ∷
    (Algorithm.AesCbc128, neg 65531) ∷ (Algorithm.AesCbc192, neg 65530) ∷
    (Algorithm.AesCbc256, neg 65529) ∷ (Algorithm.ESB512, neg 268) ∷ (Algorithm.ESB384, neg 267) ∷
    (Algorithm.ESB320, neg 266) ∷ (Algorithm.ESB256, neg 265) ∷ (Algorithm.WalnutDSA, neg 260) ∷
    (Algorithm.RS512, neg 259) ∷ (Algorithm.RS384, neg 258) ∷ (Algorithm.RS256, neg 257) ∷
    (Algorithm.Ed448, neg 53) ∷ (Algorithm.ESP512, neg 52) ∷ (Algorithm.ESP384, neg 51) ∷
    (Algorithm.ML_DSA_87, neg 50) ∷ (Algorithm.ML_DSA_65, neg 49) ∷ (Algorithm.ML_DSA_44, neg 48) ∷
    (Algorithm.ES256K, neg 47) ∷ (Algorithm.HSS_LMS, neg 46) ∷ (Algorithm.SHAKE256, neg 45) ∷
    (Algorithm.SHA_512, neg 44) ∷ (Algorithm.SHA_384, neg 43) ∷
    (Algorithm.RSAES_OAEP_SHA_512, neg 42) ∷ (Algorithm.RSAES_OAEP_SHA_256, neg 41) ∷
    (Algorithm.RSAES_OAEP_RFC_8017_default, neg 40) ∷ (Algorithm.PS512, neg 39) ∷
    (Algorithm.PS384, neg 38) ∷ (Algorithm.PS256, neg 37) ∷ (Algorithm.ES512, neg 36) ∷
    (Algorithm.ES384, neg 35) ∷ (Algorithm.ECDH_SS_A256KW, neg 34) ∷
    (Algorithm.ECDH_SS_A192KW, neg 33) ∷ (Algorithm.ECDH_SS_A128KW, neg 32) ∷
    (Algorithm.ECDH_ES_A256KW, neg 31) ∷ (Algorithm.ECDH_ES_A192KW, neg 30) ∷
    (Algorithm.ECDH_ES_A128KW, neg 29) ∷ (Algorithm.ECDH_SS_HKDF_512, neg 28) ∷
    (Algorithm.ECDH_SS_HKDF_256, neg 27) ∷ (Algorithm.ECDH_ES_HKDF_512, neg 26) ∷
    (Algorithm.ECDH_ES_HKDF_256, neg 25) ∷ (Algorithm.Ed25519, neg 19) ∷
    (Algorithm.SHAKE128, neg 18) ∷ (Algorithm.SHA_512_256, neg 17) ∷ (Algorithm.SHA_256, neg 16) ∷
    (Algorithm.SHA_256_64, neg 15) ∷ (Algorithm.SHA_1, neg 14) ∷
    (Algorithm.Direct_HKDF_AES_256, neg 13) ∷ (Algorithm.Direct_HKDF_AES_128, neg 12) ∷
    (Algorithm.Direct_HKDF_SHA_512, neg 11) ∷ (Algorithm.Direct_HKDF_SHA_256, neg 10) ∷
    (Algorithm.ESP256, neg 9) ∷ (Algorithm.EdDSA, neg 8) ∷ (Algorithm.ES256, neg 7) ∷
    (Algorithm.Direct, neg 6) ∷ (Algorithm.A256KW, neg 5) ∷ (Algorithm.A192KW, neg 4) ∷
    (Algorithm.A128KW, neg 3) ∷ (Algorithm.Reserved, pos 0) ∷ (Algorithm.A128GCM, pos 1) ∷
    (Algorithm.A192GCM, pos 2) ∷ (Algorithm.A256GCM, pos 3) ∷ (Algorithm.HMAC_256_64, pos 4) ∷
    (Algorithm.HMAC_256_256, pos 5) ∷ (Algorithm.HMAC_384_384, pos 6) ∷
    (Algorithm.HMAC_512_512, pos 7) ∷ (Algorithm.AES_CCM_16_64_128, pos 10) ∷
    (Algorithm.AES_CCM_16_64_256, pos 11) ∷ (Algorithm.AES_CCM_64_64_128, pos 12) ∷
    (Algorithm.AES_CCM_64_64_256, pos 13) ∷ (Algorithm.AES_MAC_128_64, pos 14) ∷
    (Algorithm.AES_MAC_256_64, pos 15) ∷ (Algorithm.ChaCha20Poly1305, pos 24) ∷
    (Algorithm.AES_MAC_128_128, pos 25) ∷ (Algorithm.AES_MAC_256_128, pos 26) ∷
    (Algorithm.AES_CCM_16_128_128, pos 30) ∷ (Algorithm.AES_CCM_16_128_256, pos 31) ∷
    (Algorithm.AES_CCM_64_128_128, pos 32) ∷ (Algorithm.AES_CCM_64_128_256, pos 33) ∷
    (Algorithm.IV_GENERATION, pos 34) ∷ []

unfoldable pub algorithms : Registry Algorithm
algorithms = registry algorithms_enum tt registered_algorithms refl

abbrev pub algorithm_number : Algorithm → ℤ
algorithm_number = algorithms.number

abbrev pub is_algorithm : ℤ → Bool
is_algorithm = algorithms.is_registered
