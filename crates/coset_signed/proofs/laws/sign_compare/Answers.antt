use Rattle.coset_signed.proofs.Equal.{signs}
use Rattle.coset_signed.proofs.laws.sign_compare.Goals as goal

pub returns : goal.returns
returns c = signs c.args.a.now c.args.b.now
