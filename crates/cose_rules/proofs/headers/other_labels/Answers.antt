use Rattle.cose_rules.proofs.Seen.{counted_by}
use Rattle.cose_rules.proofs.headers.other_labels.Goals as goal

pub returns : goal.returns
returns c = counted_by c.args.header.now _ _ c.count.ensures c.deref.ensures.value
