use Rattle.ciborium_traits.specs.Facts.Tuples.{two_back}
use Rattle.ciborium_traits.proofs.laws.tuples_of_two_are_taken_back.Goals as goal

pub returns : goal.returns
returns g c =
    two_back g.A.Serialize.put g.A.Deserialize.refusal g.A.Deserialize.takes g.B.Serialize.put g.B.Deserialize.refusal g.B.Deserialize.takes c.args.tuple.now.0 c.args.tuple.now.1
