use Rattle.std.proofs.Common.{[]}
use Rattle.cbor_walk.proofs.Going.{goes_to}
use Rattle.cbor_walk.proofs.Steps.{no_body, only_rest}
use Rattle.cose_sift.proofs.taking.Taking.new.Goals as goal

pub returns-clause-starts : goal.returns-clause-starts
returns-clause-starts c = goes_to _ _ _ [] c.new.ensures.starts (no_body _) (only_rest _)
