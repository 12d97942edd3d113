use Rattle.coset_labels.proofs.Errors.{printed_ended}
use Rattle.coset_labels.proofs.error.CoseErrorDisplay.fmt.Goals as goal

pub returns-in-DecodeFailed-clause-writes : goal.returns-in-DecodeFailed-clause-writes
returns-in-DecodeFailed-clause-writes g c = rw c.in-DecodeFailed.is (rw (printed_ended c.in-DecodeFailed.error) at c.write.ensures.writes)

pub returns-in-UnexpectedItem-clause-writes : goal.returns-in-UnexpectedItem-clause-writes
returns-in-UnexpectedItem-clause-writes g c = rw c.in-UnexpectedItem.is c.write-in-UnexpectedItem.ensures.writes
