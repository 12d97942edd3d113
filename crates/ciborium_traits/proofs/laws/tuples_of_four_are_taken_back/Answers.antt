use Rattle.ciborium_traits.specs.Facts.Tuples.{four_back}
use Rattle.ciborium_traits.proofs.laws.tuples_of_four_are_taken_back.Goals as goal

pub returns : goal.returns
returns g c =
    four_back g.A.Serialize.put g.A.Deserialize.refusal g.A.Deserialize.takes g.B.Serialize.put g.B.Deserialize.refusal g.B.Deserialize.takes g.C.Serialize.put g.C.Deserialize.refusal g.C.Deserialize.takes g.D.Serialize.put g.D.Deserialize.refusal g.D.Deserialize.takes c.args.tuple.now.0 c.args.tuple.now.1 c.args.tuple.now.2 c.args.tuple.now.3
