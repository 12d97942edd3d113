use Rattle.coset_signed.proofs.Equal.{sign1s}
use Rattle.coset_signed.proofs.laws.sign1_compare.Goals as goal

pub returns : goal.returns
returns c = sign1s c.args.a.now c.args.b.now
