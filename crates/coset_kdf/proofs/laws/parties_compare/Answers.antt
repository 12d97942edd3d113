use Rattle.coset_kdf.proofs.Equal.{parties}
use Rattle.coset_kdf.proofs.laws.parties_compare.Goals as goal

pub returns : goal.returns
returns c = parties c.args.a.now c.args.b.now
