use Rattle.coset_kdf.proofs.Excludes.{public_not, context_not}
use Rattle.coset_kdf.proofs.laws.wrong_has_none.Goals as goal

pub returns-clause-public : goal.returns-clause-public
returns-clause-public c = public_not

pub returns-clause-context : goal.returns-clause-context
returns-clause-context c = context_not
