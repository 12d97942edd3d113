use Rattle.ciborium.proofs.FrameLemmas.{array_closed, map_closed}
use Rattle.ciborium.proofs.frames.closed.Goals as goal

pub returns-in-Items : goal.returns-in-Items
returns-in-Items c = rw c.in-Items.is (array_closed c.in-Items.list)

pub returns-in-Entries : goal.returns-in-Entries
returns-in-Entries c = rw c.in-Entries.is (map_closed c.in-Entries.list)
