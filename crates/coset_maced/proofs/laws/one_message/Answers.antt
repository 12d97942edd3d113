use Rattle.coset_maced.proofs.Unique.{mac0_once, mac_once}
use Rattle.coset_maced.proofs.laws.one_message.Goals as goal

pub returns : goal.returns
returns c = record {
  mac0 = λ n k t m w. mac0_once n m w t k;
  mac = λ n k t m w. mac_once n m w t k;
}
