use Rattle.coset_labels.proofs.ErrorsEqual.{errors}
use Rattle.coset_labels.proofs.alike.errors_compare.Goals as goal

pub returns : goal.returns
returns c = errors c.args.a c.args.b
