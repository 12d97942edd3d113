use Rattle.std.proofs.Common.{arith}
use Rattle.ciborium_value.proofs.Numbers.{number_step, small_step, below}
use Rattle.ciborium_value.proofs.bignum.number.Goals as goal

pub overflow_mul-n : goal.overflow_mul-n
overflow_mul-n c = let b = below c.loop-x.n c.loop-x.x-index c.loop-x.invariant.small (omega arith) in omega arith

pub overflow_add-n : goal.overflow_add-n
overflow_add-n c = let b = below c.loop-x.n c.loop-x.x-index c.loop-x.invariant.small (omega arith) in
    let x = c.type_inv.bytes c.loop-x.x-index in omega arith

pub loop-x-preserved : goal.loop-x-preserved
loop-x-preserved c =
    let x = c.type_inv.bytes c.loop-x.x-index in
    record { is = number_step _ _ _ _ _ c.loop-x-test.true c.loop-x.invariant.is c.from.ensures; small = small_step _ _ _ c.loop-x.invariant.small (omega arith) }
