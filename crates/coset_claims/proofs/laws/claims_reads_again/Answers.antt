use Rattle.coset_claims.proofs.Sound.{claims_read}
use Rattle.coset_claims.proofs.laws.claims_reads_again.Goals as goal

pub returns : goal.returns
returns c = λ b i. claims_read b _ c.claims_fit.ensures i
