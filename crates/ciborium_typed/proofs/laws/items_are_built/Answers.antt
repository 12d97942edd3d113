use Rattle.ciborium_typed.proofs.Built.{item_built}
use Rattle.ciborium_typed.proofs.laws.items_are_built.Goals as goal

pub returns : goal.returns
returns c = item_built
