use Rattle.coset_claims.proofs.Again.{claims_once}
use Rattle.coset_claims.proofs.laws.one_claims_set.Goals as goal

pub returns : goal.returns
returns c = claims_once
