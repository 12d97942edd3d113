use Rattle.coset_kdf.proofs.Equal.{publics}
use Rattle.coset_kdf.proofs.laws.publics_compare.Goals as goal

pub returns : goal.returns
returns c = publics c.args.a.now c.args.b.now
