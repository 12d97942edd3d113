use Rattle.std.proofs.Common.{[]}
use Rattle.cbor_walk.proofs.Going.{goes_from}
use Rattle.cbor_walk.proofs.Steps.{no_body, only_rest}
use Rattle.cose_sift.proofs.taking.Taking.is_done.Goals as goal

pub returns-then-self-eq0-clause-done : goal.returns-then-self-eq0-clause-done
returns-then-self-eq0-clause-done c = λ e. rw c.if-self-eq0.true (goes_from _ _ _ [] (only_rest _) (no_body _) (c.is_done.ensures.done e))
