use Rattle.std.proofs.Common.{refl, arith}
use Rattle.coset_recipients.proofs.PartsKept.{kept_item, kept_tagged}
use Rattle.coset_signed.specs.Shapes.{HasSign1}
use Rattle.coset_signed.specs.View.{sign1_view}
use Rattle.coset_signed.proofs.Kept.{sign1_kept}
use Rattle.coset_signed.proofs.laws.sign1_reads_again.Goals as goal

pub returns : goal.returns
returns c =
    let m = sign1_view c.args.message.now in
    record {
      item = λ b u i e. kept_item (λ t f. HasSign1 256 t f 16) m _ (sign1_kept 256 m 16) b u (λ t h. c.sign1_fits.ensures u e (c.read_is_short.ensures.sign1 256 16 t m h)) i e;
      tagged = λ b u i e. kept_tagged 18 (λ t f. HasSign1 256 t f 16) m _ refl (omega arith) (sign1_kept 256 m 16) b u (λ t h. c.sign1_fits.ensures u e (c.read_is_short.ensures.sign1 256 16 t m h)) i e;
    }
