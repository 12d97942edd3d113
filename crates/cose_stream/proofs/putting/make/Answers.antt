use Rattle.std.proofs.Common.{◌≡◌, add-one, arith}
use Rattle.cose_stream.specs.Putting.{fails, taken, memory}
use Rattle.cose_stream.proofs.Steps.{then_does, nothing_done}
use Rattle.cose_stream.proofs.putting.make.Goals as goal

pub loop-number-init : goal.loop-number-init
loop-number-init g c = nothing_done _

pub returns-in_default-clause-err : goal.returns-in_default-clause-err
returns-in_default-clause-err g c = (_, (memory c.loop-number.number (omega arith), c.loop-number.invariant))

pub returns-in-Err-clause-err : goal.returns-in-Err-clause-err
returns-in-Err-clause-err g c =
    let d = rw (c.as_str.ensures.value, c.in-Ok.ensures, c.in-Err.is) at c.create_new.ensures.done in
    rw c.no_part.ensures (_, (fails c.loop-number.number (omega arith) c.in-Err.why, then_does _ _ _ _ _ c.loop-number.invariant d))

pub loop-number-preserved : goal.loop-number-preserved
loop-number-preserved g c =
    let d = rw (c.as_str.ensures.value, c.in-Ok.ensures, c.in-Err-IsThere.is, c.in-Err-IsThere.field-0-is) at c.create_new.ensures.done in
    rw add-one (then_does _ _ _ _ _ c.loop-number.invariant d)

pub returns-clause-err : goal.returns-clause-err
returns-clause-err g c =
    let e : c.loop-number.number ≡ 100 = omega arith in
    (_, (taken, rw e at c.loop-number.invariant))
