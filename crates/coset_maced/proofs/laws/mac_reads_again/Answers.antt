use Rattle.std.proofs.Common.{refl, arith}
use Rattle.coset_recipients.proofs.PartsKept.{kept_item, kept_tagged}
use Rattle.coset_maced.specs.Shapes.{HasMac}
use Rattle.coset_maced.specs.View.{mac_view}
use Rattle.coset_maced.proofs.Kept.{mac_kept}
use Rattle.coset_maced.proofs.laws.mac_reads_again.Goals as goal

pub returns : goal.returns
returns c =
    let m = mac_view c.args.message.now in
    record {
      item = λ b u i e. kept_item (λ t f. HasMac 256 t f 16) m _ (mac_kept 256 m 16) b u (λ t h. c.mac_fits.ensures u e (c.read_is_short.ensures.mac 256 16 t m h)) i e;
      tagged = λ b u i e. kept_tagged 97 (λ t f. HasMac 256 t f 16) m _ refl (omega arith) (mac_kept 256 m 16) b u (λ t h. c.mac_fits.ensures u e (c.read_is_short.ensures.mac 256 16 t m h)) i e;
    }
