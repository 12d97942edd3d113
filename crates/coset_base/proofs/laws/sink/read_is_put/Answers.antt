use Rattle.coset_base.proofs.Received.{hdr_received, hdr_written, prot_put, sig_received, sig_written}
use Rattle.coset_base.proofs.laws.sink.read_is_put.Goals as goal

pub returns : goal.returns
returns c = record {
  header = λ n k t h r. hdr_written h (hdr_received n h t k r);
  protected = λ n k t p. prot_put n p t k;
  signature = λ n k t s r. sig_written s (sig_received n s t k r);
}
