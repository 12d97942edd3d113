use Rattle.std.proofs.Common.{refl, [], None}
use Rattle.cbor_walk.proofs.Steps.{item_due}
use Rattle.cbor_walk.proofs.walk.Walk.restart.Goals as goal

pub returns-clause-starts : goal.returns-clause-starts
returns-clause-starts c = item_due None 1 [] refl refl
