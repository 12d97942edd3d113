use Rattle.coset_kdf.proofs.Equal.{contexts}
use Rattle.coset_kdf.proofs.laws.contexts_compare.Goals as goal

pub returns : goal.returns
returns c = contexts c.args.a.now c.args.b.now
