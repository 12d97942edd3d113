use Rattle.coset_base.proofs.Received.{hdr_received, prot_received, sig_received}
use Rattle.coset_base.proofs.laws.sink.read_is_received.Goals as goal

pub returns : goal.returns
returns c = record {
  header = λ n k t h. hdr_received n h t k;
  protected = λ n k t p. prot_received n p t k;
  signature = λ n k t s. sig_received n s t k;
}
