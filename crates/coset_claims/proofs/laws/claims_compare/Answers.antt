use Rattle.coset_claims.proofs.Equal.{claims}
use Rattle.coset_claims.proofs.laws.claims_compare.Goals as goal

pub returns : goal.returns
returns c = claims c.args.a.now c.args.b.now
