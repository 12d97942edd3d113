use Rattle.coset_headers.proofs.Excludes.{header_not, prot_not, sig_not}
use Rattle.coset_headers.proofs.Items.{item_not}
use Rattle.coset_headers.proofs.laws.wrong_has_none.Goals as goal

pub returns : goal.returns
returns c = record {
  header = λ n k t e h w a. header_not n t k e w h a;
  protected = λ n k t e p w a. prot_not n t k e w p a;
  signature = λ n k t e s w a. sig_not n t k e w s a;
  header_item = λ b e h. item_not _ _ b e h (λ t w a. header_not 256 t 16 e w h a);
  signature_item = λ b e s. item_not _ _ b e s (λ t w a. sig_not 256 t 16 e w s a);
}
