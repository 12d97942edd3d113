use Rattle.std.proofs.Common.{rules}
use Rattle.ciborium.proofs.Taking.{takes_as}
use Rattle.ciborium.proofs.OneItem.{read_one}
use Rattle.ciborium.proofs.typed.typed_item.Goals as goal

pub returns-in-Err-Memory-clause-leaves : goal.returns-in-Err-Memory-clause-leaves
returns-in-Err-Memory-clause-leaves g c =
    record { stops = search rules; one = takes_as _ _ _ _ _ _ c.in_ok-value.ensures.ok (λ x r. read_one x c.args.limit _ r); steady = search rules }
