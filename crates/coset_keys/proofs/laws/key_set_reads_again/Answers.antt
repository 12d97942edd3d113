use Rattle.coset_keys.proofs.Sound.{set_reads}
use Rattle.coset_keys.proofs.laws.key_set_reads_again.Goals as goal

pub returns : goal.returns
returns c = λ b i. set_reads b _ c.key_set_fits.ensures i
