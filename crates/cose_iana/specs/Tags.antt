-- Tags.
use Rattle.std.specs.Prelude.{ℤ, pos, List, [], ◌∷◌, refl}
use Rattle.cose_iana.specs.declared.tags.CborTag.{CborTag}
use Rattle.cose_iana.specs.contracts.tags.CborTag.{enum as cbor_tags_enum}
use Rattle.cose_iana.specs.Registry.{Registry}
use Rattle.cose_iana.specs.Listed.{registry}

-- Tags of COSE and of CBOR Web Tokens, from the registry "CBOR Tags" (RFC 8949, section 9.2).
abbrev pub registered_cbor_tags : List (CborTag × ℤ)
registered_cbor_tags =
    (CborTag.CoseEncrypt0, pos 16) ∷ (CborTag.CoseMac0, pos 17) ∷ (CborTag.CoseSign1, pos 18) ∷
    (CborTag.CoseCountersignature, pos 19) ∷ (CborTag.Cwt, pos 61) ∷ (CborTag.CoseEncrypt, pos 96) ∷
    (CborTag.CoseMac, pos 97) ∷ (CborTag.CoseSign, pos 98) ∷ []

unfoldable pub cbor_tags : Registry CborTag
cbor_tags = registry cbor_tags_enum tt registered_cbor_tags refl
