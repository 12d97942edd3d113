use Rattle.coset_keys.proofs.Unique.{key_once, set_once}
use Rattle.coset_keys.proofs.laws.one_key.Goals as goal

pub returns : goal.returns
returns c = record { key = key_once; set = set_once }
