use Rattle.coset_labels.proofs.ErrorsEqual.{named}
use Rattle.coset_labels.proofs.alike.none_is_misplaced.Goals as goal

pub returns : goal.returns
returns c b limit f w e = named b limit f w e
