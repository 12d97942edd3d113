use Rattle.cbor_walk.proofs.Deep.{deep_counts}
use Rattle.cbor_walk.proofs.laws.deep_is_counted.Goals as goal

pub returns : goal.returns
returns c = deep_counts
