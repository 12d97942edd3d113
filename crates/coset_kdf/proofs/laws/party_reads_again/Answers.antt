use Rattle.coset_kdf.proofs.Again.{party_again}
use Rattle.coset_kdf.proofs.laws.party_reads_again.Goals as goal

pub returns : goal.returns
returns c = λ b i. party_again b _ c.party_fits.ensures i
