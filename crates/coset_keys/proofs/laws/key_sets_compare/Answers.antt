use Rattle.coset_keys.proofs.Equal.{sets}
use Rattle.coset_keys.proofs.laws.key_sets_compare.Goals as goal

pub returns : goal.returns
returns c = sets c.args.a.now c.args.b.now
