use Rattle.coset_claims.proofs.Equal.{times}
use Rattle.coset_claims.proofs.laws.times_compare.Goals as goal

pub returns : goal.returns
returns c = times c.args.a.now c.args.b.now
