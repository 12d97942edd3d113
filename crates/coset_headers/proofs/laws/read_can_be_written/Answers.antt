use Rattle.coset_headers.proofs.Writable.{hdr_some, prot_some, sig_some}
use Rattle.coset_headers.proofs.laws.read_can_be_written.Goals as goal

pub returns : goal.returns
returns c = record {
  header = λ n k t h. hdr_some n h t k;
  protected = λ n k t p. prot_some n p t k;
  signature = λ n k t s. sig_some n s t k;
}
