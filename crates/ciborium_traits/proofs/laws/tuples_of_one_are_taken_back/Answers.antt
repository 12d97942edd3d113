use Rattle.ciborium_traits.specs.Facts.Tuples.{one_back}
use Rattle.ciborium_traits.proofs.laws.tuples_of_one_are_taken_back.Goals as goal

pub returns : goal.returns
returns g c =
    one_back g.A.Serialize.put g.A.Deserialize.refusal g.A.Deserialize.takes c.args.tuple.now.0
