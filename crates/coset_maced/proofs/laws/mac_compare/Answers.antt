use Rattle.coset_maced.proofs.Equal.{macs}
use Rattle.coset_maced.proofs.laws.mac_compare.Goals as goal

pub returns : goal.returns
returns c = macs c.args.a.now c.args.b.now
