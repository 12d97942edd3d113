use Rattle.coset_signed.proofs.CanonicalSteps.{no_last}
use Rattle.coset_signed.proofs.as_written.is_canonical_last.Goals as goal

pub returns-in_default : goal.returns-in_default
returns-in_default c = no_last c.args.items.now c.in_default.len_below
