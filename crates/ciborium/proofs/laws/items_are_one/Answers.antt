use Rattle.ciborium.proofs.Sequence.{items_once_within}
use Rattle.ciborium.proofs.laws.items_are_one.Goals as goal

pub returns : goal.returns
returns c = items_once_within
