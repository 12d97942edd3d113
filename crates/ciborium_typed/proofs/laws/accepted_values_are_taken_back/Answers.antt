use Rattle.ciborium_typed.specs.Facts.Tags.{accepted_back}
use Rattle.ciborium_typed.proofs.laws.accepted_values_are_taken_back.Goals as goal

pub returns : goal.returns
returns g c = accepted_back g.V.Serialize.put g.V.Deserialize.refusal g.V.Deserialize.takes g.row.TAG c.args.accepted.now.0
