use Rattle.coset_maced.proofs.Unique.{mac0_not, mac_not}
use Rattle.coset_maced.proofs.laws.wrong_has_none.Goals as goal

pub returns : goal.returns
returns c = record {
  mac0 = λ n k t e m w h. mac0_not n t k e w m h;
  mac = λ n k t e m w h. mac_not n t k e w m h;
}
