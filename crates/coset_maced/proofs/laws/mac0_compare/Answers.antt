use Rattle.coset_maced.proofs.Equal.{mac0s}
use Rattle.coset_maced.proofs.laws.mac0_compare.Goals as goal

pub returns : goal.returns
returns c = mac0s c.args.a.now c.args.b.now
