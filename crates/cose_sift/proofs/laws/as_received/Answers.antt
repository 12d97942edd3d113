use Rattle.cose_sift.proofs.ReadThrough.{as_received}
use Rattle.cose_sift.proofs.laws.as_received.Goals as goal

pub returns : goal.returns
returns c = as_received
