use Rattle.std.proofs.Common.{inr}
use Rattle.coset_recipients.proofs.Steps.{three_count}
use Rattle.coset_recipients.proofs.reader.push_read.Goals as goal

pub returns-in_default-clause-read : goal.returns-in_default-clause-read
returns-in_default-clause-read c = inr (three_count _ _ _ c.in_default.ensures)
