use Rattle.coset_kdf.proofs.Equal.{nonces}
use Rattle.coset_kdf.proofs.laws.nonces_compare.Goals as goal

pub returns : goal.returns
returns c = nonces c.args.a.now c.args.b.now
