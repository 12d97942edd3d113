use Rattle.coset_encrypted.proofs.Equal.{encrypt0s}
use Rattle.coset_encrypted.proofs.laws.encrypt0_compare.Goals as goal

pub returns : goal.returns
returns c = encrypt0s c.args.a.now c.args.b.now
