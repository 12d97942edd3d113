use Rattle.coset_kdf.proofs.Again.{public_again}
use Rattle.coset_kdf.proofs.laws.public_reads_again.Goals as goal

pub returns : goal.returns
returns c = λ b u i e. public_again b _ u (λ t a. c.public_fits.ensures.read 256 16 t u a e) i e
