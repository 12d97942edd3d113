use Rattle.cbor_walk.proofs.Steps.{whole_item}
use Rattle.cbor_walk.proofs.laws.whole_items.Goals as goal

pub returns : goal.returns
returns c = whole_item
