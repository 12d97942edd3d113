use Rattle.std.proofs.Common.{refl, arith}
use Rattle.coset_recipients.proofs.PartsKept.{kept_item, kept_tagged}
use Rattle.coset_signed.specs.Shapes.{HasSign}
use Rattle.coset_signed.specs.View.{sign_view}
use Rattle.coset_signed.proofs.Kept.{sign_kept}
use Rattle.coset_signed.proofs.laws.sign_reads_again.Goals as goal

pub returns : goal.returns
returns c =
    let m = sign_view c.args.message.now in
    record {
      item = λ b u i e. kept_item (λ t f. HasSign 256 t f 16) m _ (sign_kept 256 m 16) b u (λ t h. c.sign_fits.ensures u e (c.read_is_short.ensures.sign 256 16 t m h)) i e;
      tagged = λ b u i e. kept_tagged 98 (λ t f. HasSign 256 t f 16) m _ refl (omega arith) (sign_kept 256 m 16) b u (λ t h. c.sign_fits.ensures u e (c.read_is_short.ensures.sign 256 16 t m h)) i e;
    }
