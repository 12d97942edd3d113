use Rattle.std.proofs.Common.{refl, arith}
use Rattle.coset_recipients.proofs.PartsKept.{kept_item, kept_tagged}
use Rattle.coset_encrypted.specs.Shapes.{HasEncrypt0}
use Rattle.coset_encrypted.specs.View.{encrypt0_view}
use Rattle.coset_encrypted.proofs.Kept.{encrypt0_kept}
use Rattle.coset_encrypted.proofs.laws.encrypt0_reads_again.Goals as goal

pub returns : goal.returns
returns c =
    let m = encrypt0_view c.args.message.now in
    record {
      item = λ b u i e. kept_item (λ t f. HasEncrypt0 256 t f 16) m _ (encrypt0_kept 256 m 16) b u (λ t h. c.encrypt0_fits.ensures u e (c.read_is_short.ensures.encrypt0 256 16 t m h)) i e;
      tagged = λ b u i e. kept_tagged 16 (λ t f. HasEncrypt0 256 t f 16) m _ refl (omega arith) (encrypt0_kept 256 m 16) b u (λ t h. c.encrypt0_fits.ensures u e (c.read_is_short.ensures.encrypt0 256 16 t m h)) i e;
    }
