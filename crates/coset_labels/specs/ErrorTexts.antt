-- What is printed of each reason why a COSE structure was not read or written.
use Rattle.std.specs.Prelude.{ℕ, List, ◌++◌, codes}
use Rattle.ciborium.specs.ErrorNames.{decode_text}
use Rattle.coset_labels.specs.declared.error.CoseError.{CoseError}
use Rattle.coset_labels.specs.declared.error.CoseError.TheVariants as code

-- of the end of the bytes, in parentheses
abbrev pub ended : List ℕ
ended = codes "(EndOfFile)"

abbrev pub cose_text : CoseError → List ℕ
cose_text (code.DecodeFailed e) = codes "decode CBOR failure: " ++ decode_text ended e
cose_text code.DuplicateMapKey = codes "duplicate map key"
cose_text code.EncodeFailed = codes "encode CBOR failure"
cose_text code.ExtraneousData = codes "extraneous data in CBOR input"
cose_text code.OutOfRangeIntegerValue = codes "out of range integer value"
cose_text (code.UnexpectedItem got want) =
    codes "got " ++ (got.now ++ (codes ", expected " ++ want.now))
cose_text code.UnregisteredIanaValue = codes "expected recognized IANA value"
cose_text code.UnregisteredIanaNonPrivateValue =
    codes "expected value in IANA or private use range"
cose_text code.Memory = codes "out of memory"
cose_text code.TooManyLayers = codes "too many protected layers"
