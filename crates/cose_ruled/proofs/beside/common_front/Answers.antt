use Rattle.cose_ruled.proofs.Shared.{none_left}
use Rattle.cose_ruled.proofs.beside.common_front.Goals as goal

pub returns-else-count-ys-clause-common : goal.returns-else-count-ys-clause-common
returns-else-count-ys-clause-common c = none_left c.args.xs.now c.args.ys.now c.loop-count.count _ c.if-count-ys.false c.loop-count.invariant.2
