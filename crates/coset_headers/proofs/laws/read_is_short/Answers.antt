use Rattle.coset_headers.proofs.Fit.{hdr_short, prot_short, sig_short}
use Rattle.coset_headers.proofs.laws.read_is_short.Goals as goal

pub returns : goal.returns
returns c = record { header = λ n k t h. hdr_short n h t k; protected = λ n k t p. prot_short n p t k; signature = λ n k t s. sig_short n s t k }
