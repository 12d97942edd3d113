use Rattle.coset_claims.proofs.Excludes.{claims_not}
use Rattle.coset_claims.proofs.laws.wrong_has_none.Goals as goal

pub returns : goal.returns
returns c = claims_not
