-- Types of contents.
use Rattle.std.specs.Prelude.{ℤ, pos, List, [], ◌∷◌, refl}
use Rattle.cose_iana.specs.declared.formats.CoapContentFormat.{CoapContentFormat}
use Rattle.cose_iana.specs.contracts.formats.CoapContentFormat.{enum as coap_content_formats_enum}
use Rattle.cose_iana.specs.Registry.{Registry}
use Rattle.cose_iana.specs.Listed.{registry}

-- Types of contents: the registry "CoAP Content-Formats" (RFC 7252, section 12.3). These are names;
-- nothing is read or compressed in them.
abbrev pub registered_coap_content_formats : List (CoapContentFormat × ℤ)
registered_coap_content_formats =
    (CoapContentFormat.TextPlainUtf8, pos 0) ∷ (CoapContentFormat.CoseEncrypt0, pos 16) ∷
    (CoapContentFormat.CoseMac0, pos 17) ∷ (CoapContentFormat.CoseSign1, pos 18) ∷
    (CoapContentFormat.AceCbor, pos 19) ∷ (CoapContentFormat.ImageGif, pos 21) ∷
    (CoapContentFormat.ImageJpeg, pos 22) ∷ (CoapContentFormat.ImagePng, pos 23) ∷
    (CoapContentFormat.LinkFormat, pos 40) ∷ (CoapContentFormat.Xml, pos 41) ∷
    (CoapContentFormat.OctetStream, pos 42) ∷ (CoapContentFormat.Exi, pos 47) ∷
    (CoapContentFormat.Json, pos 50) ∷ (CoapContentFormat.JsonPatchJson, pos 51) ∷
    (CoapContentFormat.MergePatchJson, pos 52) ∷ (CoapContentFormat.Cbor, pos 60) ∷
    (CoapContentFormat.Cwt, pos 61) ∷ (CoapContentFormat.MultipartCore, pos 62) ∷
    (CoapContentFormat.CborSeq, pos 63) ∷ (CoapContentFormat.EdhocCborSeq, pos 64) ∷
    (CoapContentFormat.CidEdhocCborSeq, pos 65) ∷ (CoapContentFormat.CoseEncrypt, pos 96) ∷
    (CoapContentFormat.CoseMac, pos 97) ∷ (CoapContentFormat.CoseSign, pos 98) ∷
    (CoapContentFormat.CoseKey, pos 101) ∷ (CoapContentFormat.CoseKeySet, pos 102) ∷
    (CoapContentFormat.SenmlJson, pos 110) ∷ (CoapContentFormat.SensmlJson, pos 111) ∷
    (CoapContentFormat.SenmlCbor, pos 112) ∷ (CoapContentFormat.SensmlCbor, pos 113) ∷
    (CoapContentFormat.SenmlExi, pos 114) ∷ (CoapContentFormat.SensmlExi, pos 115) ∷
    (CoapContentFormat.YangData, pos 140) ∷ (CoapContentFormat.CoapGroupJson, pos 256) ∷
    (CoapContentFormat.ConciseProblemDetailsCbor, pos 257) ∷ (CoapContentFormat.SwidCbor, pos 258) ∷
    (CoapContentFormat.PkixCmp, pos 259) ∷ (CoapContentFormat.YangSidJson, pos 260) ∷
    (CoapContentFormat.AceGroupcommCbor, pos 261) ∷ (CoapContentFormat.AceTrlCbor, pos 262) ∷
    (CoapContentFormat.EatCwt, pos 263) ∷ (CoapContentFormat.EatJwt, pos 264) ∷
    (CoapContentFormat.EatBunCbor, pos 265) ∷ (CoapContentFormat.EatBunJson, pos 266) ∷
    (CoapContentFormat.EatUcsCbor, pos 267) ∷ (CoapContentFormat.EatUcsJson, pos 268) ∷
    (CoapContentFormat.DotsCbor, pos 271) ∷ (CoapContentFormat.MissingBlocksCborSeq, pos 272) ∷
    (CoapContentFormat.Pkcs7MimeSmimeTypeServerGeneratedKey, pos 280) ∷
    (CoapContentFormat.Pkcs7MimeSmimeTypeCertsOnly, pos 281) ∷
    (CoapContentFormat.Pkcs7MimeSmimeTypeCmcRequest, pos 282) ∷
    (CoapContentFormat.Pkcs7MimeSmimeTypeCmcResponse, pos 283) ∷
    (CoapContentFormat.Pkcs8, pos 284) ∷ (CoapContentFormat.Csrattrs, pos 285) ∷
    (CoapContentFormat.Pkcs10, pos 286) ∷ (CoapContentFormat.PkixCert, pos 287) ∷
    (CoapContentFormat.AifCbor, pos 290) ∷ (CoapContentFormat.AifJson, pos 291) ∷
    (CoapContentFormat.SenmlXml, pos 310) ∷ (CoapContentFormat.SensmlXml, pos 311) ∷
    (CoapContentFormat.SenmlEtchJson, pos 320) ∷ (CoapContentFormat.SenmlEtchCbor, pos 322) ∷
    (CoapContentFormat.YangDataCbor, pos 340) ∷ (CoapContentFormat.YangDataCborName, pos 341) ∷
    (CoapContentFormat.TdJson, pos 432) ∷ (CoapContentFormat.TmJson, pos 433) ∷
    (CoapContentFormat.UccsCbor, pos 601) ∷ (CoapContentFormat.VndOcfCbor, pos 10000) ∷
    (CoapContentFormat.Oscore, pos 10001) ∷ (CoapContentFormat.Javascript, pos 10002) ∷
    (CoapContentFormat.EatCwtTfm, pos 10003) ∷ (CoapContentFormat.EatCwtLegacy, pos 10004) ∷
    (CoapContentFormat.JsonDeflate, pos 11050) ∷ (CoapContentFormat.CborDeflate, pos 11060) ∷
    (CoapContentFormat.VndOmaLwm2mTlv, pos 11542) ∷ (CoapContentFormat.VndOmaLwm2mJson, pos 11543) ∷
    (CoapContentFormat.VndOmaLwm2mCbor, pos 11544) ∷ (CoapContentFormat.TextCss, pos 20000) ∷
    (CoapContentFormat.ImageSvgXml, pos 30000) ∷ []

unfoldable pub coap_content_formats : Registry CoapContentFormat
coap_content_formats = registry coap_content_formats_enum tt registered_coap_content_formats refl
