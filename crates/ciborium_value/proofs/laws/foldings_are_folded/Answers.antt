use Rattle.ciborium_value.proofs.Folded.{fold_twice}
use Rattle.ciborium_value.proofs.laws.foldings_are_folded.Goals as goal

pub returns : goal.returns
returns c = fold_twice
