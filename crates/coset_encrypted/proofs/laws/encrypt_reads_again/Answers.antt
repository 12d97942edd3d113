use Rattle.std.proofs.Common.{refl, arith}
use Rattle.coset_recipients.proofs.PartsKept.{kept_item, kept_tagged}
use Rattle.coset_encrypted.specs.Shapes.{HasEncrypt}
use Rattle.coset_encrypted.specs.View.{encrypt_view}
use Rattle.coset_encrypted.proofs.Kept.{encrypt_kept}
use Rattle.coset_encrypted.proofs.laws.encrypt_reads_again.Goals as goal

pub returns : goal.returns
returns c =
    let m = encrypt_view c.args.message.now in
    record {
      item = λ b u i e. kept_item (λ t f. HasEncrypt 256 t f 16) m _ (encrypt_kept 256 m 16) b u (λ t h. c.encrypt_fits.ensures u e (c.read_is_short.ensures.encrypt 256 16 t m h)) i e;
      tagged = λ b u i e. kept_tagged 96 (λ t f. HasEncrypt 256 t f 16) m _ refl (omega arith) (encrypt_kept 256 m 16) b u (λ t h. c.encrypt_fits.ensures u e (c.read_is_short.ensures.encrypt 256 16 t m h)) i e;
    }
