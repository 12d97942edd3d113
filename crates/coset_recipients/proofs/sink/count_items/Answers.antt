use Rattle.coset_headers.proofs.Empty.{full_by}
use Rattle.coset_recipients.proofs.Events.{some_counted}
use Rattle.coset_recipients.proofs.sink.count_items.Goals as goal

pub returns-else-is_empty : goal.returns-else-is_empty
returns-else-is_empty c = some_counted c.args.recipients.now (full_by c.args.recipients.now _ c.is_empty.ensures c.if-is_empty.false)
