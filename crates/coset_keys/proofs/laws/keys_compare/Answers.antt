use Rattle.coset_keys.proofs.Equal.{keys}
use Rattle.coset_keys.proofs.laws.keys_compare.Goals as goal

pub returns : goal.returns
returns c = keys c.args.a.now c.args.b.now
