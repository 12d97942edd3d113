use Rattle.ciborium_traits.specs.Facts.Lists.{list_back}
use Rattle.ciborium_traits.proofs.laws.lists_are_taken_back.Goals as goal

pub returns : goal.returns
returns g c = list_back g.T.Serialize.put g.T.Deserialize.refusal g.T.Deserialize.takes c.args.list.now.items
