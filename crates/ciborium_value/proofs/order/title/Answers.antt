use Rattle.std.proofs.Common.{◌∙◌}
use Rattle.ciborium_value.proofs.ValueOrder.{array_number, map_number}
use Rattle.ciborium_value.proofs.order.title.Goals as goal

pub returns-in-Array-clause-number : goal.returns-in-Array-clause-number
returns-in-Array-clause-number c = c.len-in-Array.ensures ∙ array_number c.args.value.now c.in-Array.items c.in-Array.is

pub returns-in-Map-clause-number : goal.returns-in-Map-clause-number
returns-in-Map-clause-number c = c.len-in-Map.ensures ∙ map_number c.args.value.now c.in-Map.entries c.in-Map.is
