use Rattle.std.proofs.Common.{refl}
use Rattle.ciborium_traits.specs.Facts.Lists.{option_back}
use Rattle.ciborium_traits.proofs.laws.options_are_taken_back.Goals as goal

pub returns : goal.returns
returns g c = record { none = (refl, refl, refl); some = option_back g.T.Serialize.put g.T.Deserialize.refusal g.T.Deserialize.takes c.args.value.now }
