use Rattle.std.proofs.Common.{refl, arith}
use Rattle.coset_recipients.proofs.PartsKept.{kept_item, kept_tagged}
use Rattle.coset_maced.specs.Shapes.{HasMac0}
use Rattle.coset_maced.specs.View.{mac0_view}
use Rattle.coset_maced.proofs.Kept.{mac0_kept}
use Rattle.coset_maced.proofs.laws.mac0_reads_again.Goals as goal

pub returns : goal.returns
returns c =
    let m = mac0_view c.args.message.now in
    record {
      item = λ b u i e. kept_item (λ t f. HasMac0 256 t f 16) m _ (mac0_kept 256 m 16) b u (λ t h. c.mac0_fits.ensures u e (c.read_is_short.ensures.mac0 256 16 t m h)) i e;
      tagged = λ b u i e. kept_tagged 17 (λ t f. HasMac0 256 t f 16) m _ refl (omega arith) (mac0_kept 256 m 16) b u (λ t h. c.mac0_fits.ensures u e (c.read_is_short.ensures.mac0 256 16 t m h)) i e;
    }
