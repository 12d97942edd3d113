-- Entries are ordered by their numbers, and none has a number for private use.
use Rattle.std.specs.Prelude.{◌≡◌, refl, ℤ, true, false}
use Rattle.std.specs.Ordering.{int_cmp}
use Rattle.std.specs.declared.cmp.Ordering.TheVariants.{Equal}
use Rattle.cose_iana.specs.Registry.{neg, is_private_use}
use Rattle.cose_iana.specs.Facts.{InOrder, not_below}
use Rattle.cose_iana.specs.Algorithms.{registered_algorithms, algorithms}
use Rattle.cose_iana.specs.contracts.algorithm.Algorithm.{enum as algorithms_enum}
use Rattle.cose_iana.specs.Claims.{registered_cwt_claim_names, cwt_claim_names}
use Rattle.cose_iana.specs.contracts.claims.CwtClaimName.{enum as cwt_claim_names_enum}
use Rattle.cose_iana.specs.Formats.{registered_coap_content_formats, coap_content_formats}
use Rattle.cose_iana.specs.contracts.formats.CoapContentFormat.{enum as coap_content_formats_enum}
use Rattle.cose_iana.specs.Headers.{registered_header_parameters, header_parameters, registered_header_algorithm_parameters, header_algorithm_parameters}
use Rattle.cose_iana.specs.contracts.headers.HeaderParameter.{enum as header_parameters_enum}
use Rattle.cose_iana.specs.contracts.headers.HeaderAlgorithmParameter.{enum as header_algorithm_parameters_enum}
use Rattle.cose_iana.specs.Keys.{registered_key_parameters, key_parameters, registered_key_types, key_types, registered_elliptic_curves, elliptic_curves, registered_key_operations, key_operations}
use Rattle.cose_iana.specs.contracts.keys.KeyParameter.{enum as key_parameters_enum}
use Rattle.cose_iana.specs.contracts.keys.KeyType.{enum as key_types_enum}
use Rattle.cose_iana.specs.contracts.keys.EllipticCurve.{enum as elliptic_curves_enum}
use Rattle.cose_iana.specs.contracts.keys.KeyOperation.{enum as key_operations_enum}
use Rattle.cose_iana.specs.KeyParameters.{registered_okp_key_parameters, okp_key_parameters, registered_ec2_key_parameters, ec2_key_parameters, registered_rsa_key_parameters, rsa_key_parameters, symmetric_key_parameters, hss_lms_key_parameters, registered_walnut_dsa_key_parameters, walnut_dsa_key_parameters, registered_akp_key_parameters, akp_key_parameters}
use Rattle.cose_iana.specs.contracts.key_parameters.OkpKeyParameter.{enum as okp_key_parameters_enum}
use Rattle.cose_iana.specs.contracts.key_parameters.Ec2KeyParameter.{enum as ec2_key_parameters_enum}
use Rattle.cose_iana.specs.contracts.key_parameters.RsaKeyParameter.{enum as rsa_key_parameters_enum}
use Rattle.cose_iana.specs.declared.key_parameters.SymmetricKeyParameter.{SymmetricKeyParameter}
use Rattle.cose_iana.specs.declared.key_parameters.HssLmsKeyParameter.{HssLmsKeyParameter}
use Rattle.cose_iana.specs.contracts.key_parameters.WalnutDsaKeyParameter.{enum as walnut_dsa_key_parameters_enum}
use Rattle.cose_iana.specs.contracts.key_parameters.AkpKeyParameter.{enum as akp_key_parameters_enum}
use Rattle.cose_iana.specs.Tags.{registered_cbor_tags, cbor_tags}
use Rattle.cose_iana.specs.contracts.tags.CborTag.{enum as cbor_tags_enum}

pub algorithms_in_order : InOrder algorithms_enum registered_algorithms algorithms
unfolding algorithms
algorithms_in_order x y = refl

pub algorithms_not_private : (i : ℤ) → is_private_use i ≡ true → algorithms.is_registered i ≡ false
unfolding algorithms
algorithms_not_private = not_below (neg 65536) registered_algorithms refl

pub cwt_claim_names_in_order : InOrder cwt_claim_names_enum registered_cwt_claim_names cwt_claim_names
cwt_claim_names_in_order x y = refl

pub cwt_claim_names_not_private : (i : ℤ) → is_private_use i ≡ true → cwt_claim_names.is_registered i ≡ false
cwt_claim_names_not_private = not_below (neg 65536) registered_cwt_claim_names refl

pub coap_content_formats_in_order : InOrder coap_content_formats_enum registered_coap_content_formats coap_content_formats
unfolding coap_content_formats
coap_content_formats_in_order x y = refl

pub header_parameters_in_order : InOrder header_parameters_enum registered_header_parameters header_parameters
unfolding header_parameters
header_parameters_in_order x y = refl

pub header_parameters_not_private : (i : ℤ) → is_private_use i ≡ true → header_parameters.is_registered i ≡ false
unfolding header_parameters
header_parameters_not_private = not_below (neg 65536) registered_header_parameters refl

pub header_algorithm_parameters_in_order : InOrder header_algorithm_parameters_enum registered_header_algorithm_parameters header_algorithm_parameters
unfolding header_algorithm_parameters
header_algorithm_parameters_in_order x y = refl

pub key_parameters_in_order : InOrder key_parameters_enum registered_key_parameters key_parameters
unfolding key_parameters
key_parameters_in_order x y = refl

pub key_types_in_order : InOrder key_types_enum registered_key_types key_types
unfolding key_types
key_types_in_order x y = refl

pub elliptic_curves_in_order : InOrder elliptic_curves_enum registered_elliptic_curves elliptic_curves
unfolding elliptic_curves
elliptic_curves_in_order x y = refl

pub elliptic_curves_not_private : (i : ℤ) → is_private_use i ≡ true → elliptic_curves.is_registered i ≡ false
unfolding elliptic_curves
elliptic_curves_not_private = not_below (neg 65536) registered_elliptic_curves refl

pub key_operations_in_order : InOrder key_operations_enum registered_key_operations key_operations
unfolding key_operations
key_operations_in_order x y = refl

pub okp_key_parameters_in_order : InOrder okp_key_parameters_enum registered_okp_key_parameters okp_key_parameters
unfolding okp_key_parameters
okp_key_parameters_in_order x y = refl

pub ec2_key_parameters_in_order : InOrder ec2_key_parameters_enum registered_ec2_key_parameters ec2_key_parameters
unfolding ec2_key_parameters
ec2_key_parameters_in_order x y = refl

pub rsa_key_parameters_in_order : InOrder rsa_key_parameters_enum registered_rsa_key_parameters rsa_key_parameters
unfolding rsa_key_parameters
rsa_key_parameters_in_order x y = refl

-- of one entry the order is that it equals itself
pub symmetric_key_parameters_in_order : (x y : SymmetricKeyParameter) → Equal ≡ int_cmp (symmetric_key_parameters.number x) (symmetric_key_parameters.number y)
unfolding symmetric_key_parameters
symmetric_key_parameters_in_order SymmetricKeyParameter.K SymmetricKeyParameter.K = refl

-- of one entry the order is that it equals itself
pub hss_lms_key_parameters_in_order : (x y : HssLmsKeyParameter) → Equal ≡ int_cmp (hss_lms_key_parameters.number x) (hss_lms_key_parameters.number y)
unfolding hss_lms_key_parameters
hss_lms_key_parameters_in_order HssLmsKeyParameter.Pub HssLmsKeyParameter.Pub = refl

pub walnut_dsa_key_parameters_in_order : InOrder walnut_dsa_key_parameters_enum registered_walnut_dsa_key_parameters walnut_dsa_key_parameters
unfolding walnut_dsa_key_parameters
walnut_dsa_key_parameters_in_order x y = refl

pub akp_key_parameters_in_order : InOrder akp_key_parameters_enum registered_akp_key_parameters akp_key_parameters
unfolding akp_key_parameters
akp_key_parameters_in_order x y = refl

pub cbor_tags_in_order : InOrder cbor_tags_enum registered_cbor_tags cbor_tags
unfolding cbor_tags
cbor_tags_in_order x y = refl
