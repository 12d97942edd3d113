use Rattle.coset_recipients.proofs.Equal.{equal}
use Rattle.coset_recipients.proofs.laws.recipient_compare.Goals as goal

pub returns : goal.returns
returns c = equal c.args.a.now c.args.b.now
