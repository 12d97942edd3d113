use Rattle.ciborium.proofs.Once.{once}
use Rattle.ciborium.proofs.laws.one_spelling.Goals as goal

pub returns : goal.returns
returns c = once
