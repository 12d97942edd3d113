use Rattle.coset_maced.proofs.Fit.{mac0_short, mac_short}
use Rattle.coset_maced.proofs.laws.read_is_short.Goals as goal

pub returns : goal.returns
returns c = record { mac0 = λ n k t m. mac0_short n m t k; mac = λ n k t m. mac_short n m t k }
