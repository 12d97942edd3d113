use Rattle.ciborium.proofs.Building.{pairs_last}
use Rattle.ciborium.proofs.build.with_entry.Goals as goal

pub returns-in-Ok-clause-view : goal.returns-in-Ok-clause-view
returns-in-Ok-clause-view c ps k t h m n =
    pairs_last _ _ _ _ ps k t c.in-Ok.ensures.items (rw c.in_ok-entries.was at h) (rw c.in_ok-key.was at m) (rw c.in_ok-value.was at n)
