use Rattle.coset_claims.proofs.Again.{claims_again}
use Rattle.coset_claims.proofs.laws.claims_are_read_again.Goals as goal

pub returns : goal.returns
returns c = claims_again
