use Rattle.coset_kdf.proofs.Again.{context_again}
use Rattle.coset_kdf.proofs.laws.context_reads_again.Goals as goal

pub returns : goal.returns
returns c = λ b u i e. context_again b _ u (λ t a. c.context_fits.ensures.read 256 16 t u a e) i e
