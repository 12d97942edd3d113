use Rattle.coset_keys.proofs.Excludes.{key_not, set_not}
use Rattle.coset_keys.proofs.laws.wrong_has_none.Goals as goal

pub returns : goal.returns
returns c = record { key = λ t e k w a. key_not t e k w a; set = λ t e ks w a. set_not t e ks w a }
