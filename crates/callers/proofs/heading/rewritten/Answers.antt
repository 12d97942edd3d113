use Rattle.callers.proofs.Spelled.{rewritten}
use Rattle.callers.proofs.heading.rewritten.Goals as goal

pub returns-clause-ok : goal.returns-clause-ok
returns-clause-ok c = rewritten c.to_vec.result _ _ _ c.in_ok-header.ensures.ok.0 c.header_reads_again.ensures c.to_vec.ensures
