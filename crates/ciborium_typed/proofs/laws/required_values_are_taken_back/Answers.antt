use Rattle.ciborium_typed.specs.Facts.Tags.{required_back}
use Rattle.ciborium_typed.proofs.laws.required_values_are_taken_back.Goals as goal

pub returns : goal.returns
returns g c = required_back g.V.Serialize.put g.V.Deserialize.refusal g.V.Deserialize.takes g.row.TAG c.args.required.now.0
