use Rattle.std.proofs.Common.{arith}
use Rattle.std.proofs.lemmas.Bool.Decides.{nat_tests}
use Rattle.cose_ruled.proofs.Shared.{back_left, back_more, back_stops}
use Rattle.cose_ruled.proofs.beside.common_back.Goals as goal

pub loop-count-preserved : goal.loop-count-preserved
loop-count-preserved c =
    (omega arith, omega arith, back_more c.args.xs.now c.args.ys.now c.loop-count.count c.loop-count-test.true c.if-count-ys.true c.if-xs-count.true c.loop-count.invariant.2)

pub returns-else-xs-count-clause-common : goal.returns-else-xs-count-clause-common
returns-else-xs-count-clause-common c =
    back_stops c.args.xs.now c.args.ys.now c.loop-count.count c.loop-count-test.true c.if-count-ys.true (grind (arith, nat_tests, c.if-xs-count.false)) c.loop-count.invariant.2

pub returns-else-count-ys-clause-common : goal.returns-else-count-ys-clause-common
returns-else-count-ys-clause-common c = back_left c.args.xs.now c.args.ys.now c.loop-count.count c.if-count-ys.false c.loop-count.invariant.2
