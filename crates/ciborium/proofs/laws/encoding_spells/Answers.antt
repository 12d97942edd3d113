use Rattle.ciborium.proofs.Encoded.{enc_spells, enc_once, enc_prefix}
use Rattle.ciborium.proofs.laws.encoding_spells.Goals as goal

pub returns : goal.returns
returns c = record { spells = enc_spells; once = enc_once; prefix = enc_prefix }
