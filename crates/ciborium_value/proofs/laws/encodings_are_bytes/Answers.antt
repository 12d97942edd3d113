use Rattle.ciborium_value.proofs.EncodedBytes.{enc_low}
use Rattle.ciborium_value.proofs.laws.encodings_are_bytes.Goals as goal

pub returns : goal.returns
returns c = enc_low
