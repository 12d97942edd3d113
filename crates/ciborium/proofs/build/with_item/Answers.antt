use Rattle.ciborium.proofs.Building.{views_last}
use Rattle.ciborium.proofs.build.with_item.Goals as goal

pub returns-in-Ok-clause-view : goal.returns-in-Ok-clause-view
returns-in-Ok-clause-view c ts t h k =
    views_last _ _ _ ts t c.in-Ok.ensures.items (rw c.in_ok-items.was at h) (rw c.in_ok-item.was at k)
