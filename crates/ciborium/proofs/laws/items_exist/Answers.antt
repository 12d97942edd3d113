use Rattle.ciborium.proofs.Sequence.{items_there_within}
use Rattle.ciborium.proofs.laws.items_exist.Goals as goal

pub returns : goal.returns
returns c = items_there_within
