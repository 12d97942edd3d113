use Rattle.ciborium_value.proofs.OneEncoding.{enc_once, enc_prefix}
use Rattle.ciborium_value.proofs.laws.one_encoding.Goals as goal

pub returns : goal.returns
returns c = record { once = enc_once; prefix = enc_prefix }
