-- Names of claims.
use Rattle.std.specs.Prelude.{ℤ, pos, List, [], ◌∷◌, refl}
use Rattle.cose_iana.specs.declared.claims.CwtClaimName.{CwtClaimName}
use Rattle.cose_iana.specs.contracts.claims.CwtClaimName.{enum as cwt_claim_names_enum}
use Rattle.cose_iana.specs.Registry.{neg, Registry}
use Rattle.cose_iana.specs.Listed.{registry}

-- Names of claims: the registry "CBOR Web Token (CWT) Claims" (RFC 8392, section 9.1).
abbrev pub registered_cwt_claim_names : List (CwtClaimName × ℤ)
registered_cwt_claim_names =
    (CwtClaimName.GlobalPlatformComponents, neg 261) ∷ (CwtClaimName.Hcert, neg 260) ∷
    (CwtClaimName.EuphNonce, neg 259) ∷ (CwtClaimName.EatMaroePrefix, neg 258) ∷
    (CwtClaimName.EatFido, neg 257) ∷ (CwtClaimName.Reserved, pos 0) ∷ (CwtClaimName.Iss, pos 1) ∷
    (CwtClaimName.Sub, pos 2) ∷ (CwtClaimName.Aud, pos 3) ∷ (CwtClaimName.Exp, pos 4) ∷
    (CwtClaimName.Nbf, pos 5) ∷ (CwtClaimName.Iat, pos 6) ∷ (CwtClaimName.Cti, pos 7) ∷
    (CwtClaimName.Cnf, pos 8) ∷ (CwtClaimName.Scope, pos 9) ∷ (CwtClaimName.Nonce, pos 10) ∷
    (CwtClaimName.AceProfile, pos 38) ∷ (CwtClaimName.CNonce, pos 39) ∷ (CwtClaimName.Exi, pos 40) ∷
    (CwtClaimName.UEID, pos 256) ∷ (CwtClaimName.SUEIDs, pos 257) ∷
    (CwtClaimName.HardwareOemid, pos 258) ∷ (CwtClaimName.HardwareModel, pos 259) ∷
    (CwtClaimName.HardwareVersion, pos 260) ∷ (CwtClaimName.Uptime, pos 261) ∷
    (CwtClaimName.OemAuthorizedBoot, pos 262) ∷ (CwtClaimName.DebugStatus, pos 263) ∷
    (CwtClaimName.Location, pos 264) ∷ (CwtClaimName.EatProfile, pos 265) ∷
    (CwtClaimName.SubmodulesSection, pos 266) ∷ (CwtClaimName.BootCount, pos 267) ∷
    (CwtClaimName.BootSeed, pos 268) ∷ (CwtClaimName.DLoAs, pos 269) ∷
    (CwtClaimName.SoftwareName, pos 270) ∷ (CwtClaimName.SoftwareVersion, pos 271) ∷
    (CwtClaimName.SoftwareManifests, pos 272) ∷ (CwtClaimName.Measurements, pos 273) ∷
    (CwtClaimName.SoftwareMeasurementResults, pos 274) ∷ (CwtClaimName.IntendedUse, pos 275) ∷
    (CwtClaimName.Geohash, pos 282) ∷ (CwtClaimName.WmVersion, pos 300) ∷
    (CwtClaimName.WmVendor, pos 301) ∷ (CwtClaimName.WmPatternLen, pos 302) ∷
    (CwtClaimName.WmSegmentDuration, pos 303) ∷ (CwtClaimName.WmPattern, pos 304) ∷
    (CwtClaimName.WmId, pos 305) ∷ (CwtClaimName.WmOpId, pos 306) ∷
    (CwtClaimName.WmKeyVer, pos 307) ∷ (CwtClaimName.CatReplay, pos 308) ∷
    (CwtClaimName.CatPor, pos 309) ∷ (CwtClaimName.CatVersion, pos 310) ∷
    (CwtClaimName.CatNetworkIp, pos 311) ∷ (CwtClaimName.CatUri, pos 312) ∷
    (CwtClaimName.CatMethod, pos 313) ∷ (CwtClaimName.CatAlpn, pos 314) ∷
    (CwtClaimName.CatHeader, pos 315) ∷ (CwtClaimName.CatGeoIso3166, pos 316) ∷
    (CwtClaimName.CatGeoCoord, pos 317) ∷ (CwtClaimName.CatGeoAlt, pos 318) ∷
    (CwtClaimName.CatTlsPublicKey, pos 319) ∷ (CwtClaimName.CatIfData, pos 320) ∷
    (CwtClaimName.CatDPoP, pos 321) ∷ (CwtClaimName.CatIf, pos 322) ∷
    (CwtClaimName.CatRenewal, pos 323) ∷ (CwtClaimName.PsaClientId, pos 2394) ∷
    (CwtClaimName.PsaSecurityLifecycle, pos 2395) ∷ (CwtClaimName.PsaImplementationId, pos 2396) ∷
    (CwtClaimName.PsaCertificationReference, pos 2398) ∷
    (CwtClaimName.PsaSoftwareComponents, pos 2399) ∷
    (CwtClaimName.PsaVerificationServiceIndicator, pos 2400) ∷ []

-- This is open, so that a condition on the number of an entry, as that of `claim`, computes at
-- a caller.
abbrev pub cwt_claim_names : Registry CwtClaimName
cwt_claim_names = registry cwt_claim_names_enum tt registered_cwt_claim_names refl
