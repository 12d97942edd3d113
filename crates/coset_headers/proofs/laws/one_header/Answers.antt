use Rattle.coset_headers.proofs.Unique.{hdr_once, prot_once, sig_once}
use Rattle.coset_headers.proofs.Items.{item_once}
use Rattle.coset_headers.proofs.laws.one_header.Goals as goal

pub returns : goal.returns
returns c = record {
  header = λ n k t h g. hdr_once n h g t k;
  protected = λ n k t p q. prot_once n p q t k;
  signature = λ n k t s u. sig_once n s u t k;
  header_item = λ b h g. item_once _ b h g (λ t x y. hdr_once 256 h g t 16 x y);
  signature_item = λ b s u. item_once _ b s u (λ t x y. sig_once 256 s u t 16 x y);
}
