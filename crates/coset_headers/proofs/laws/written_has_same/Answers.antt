use Rattle.coset_headers.proofs.Again.{hdr_again, prot_again, sig_again}
use Rattle.coset_headers.proofs.laws.written_has_same.Goals as goal

pub returns : goal.returns
returns c = record {
  header = λ n k t u h. hdr_again n h t u k;
  protected = λ n k t b p. prot_again n p t k b;
  signature = λ n k t u s. sig_again n s t u k;
}
