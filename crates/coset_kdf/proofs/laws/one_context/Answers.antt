use Rattle.coset_kdf.proofs.Unique.{public_once, context_once}
use Rattle.coset_kdf.proofs.laws.one_context.Goals as goal

pub returns-clause-public : goal.returns-clause-public
returns-clause-public c = public_once

pub returns-clause-context : goal.returns-clause-context
returns-clause-context c = context_once
