use Rattle.ciborium_traits.specs.Facts.Maps.{map_back}
use Rattle.ciborium_traits.proofs.laws.maps_are_taken_back.Goals as goal

pub returns : goal.returns
returns g c =
    map_back g.K.Ord.cmp g.met.K.Ord.total g.K.Serialize.put g.K.Deserialize.refusal g.K.Deserialize.takes g.V.Serialize.put g.V.Deserialize.refusal g.V.Deserialize.takes c.args.map.now.entries c.len-len.ensures.ordered
