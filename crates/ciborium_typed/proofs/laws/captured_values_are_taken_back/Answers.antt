use Rattle.ciborium_typed.specs.Facts.Tags.{captured_back}
use Rattle.ciborium_typed.proofs.laws.captured_values_are_taken_back.Goals as goal

pub returns : goal.returns
returns g c = captured_back g.V.Serialize.put g.V.Deserialize.refusal g.V.Deserialize.takes c.args.captured.now.0 c.args.captured.now.1
