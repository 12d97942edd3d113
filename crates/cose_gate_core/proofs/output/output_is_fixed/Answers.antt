use Rattle.cose_gate_core.proofs.FixedPoints.{fixed_run, fixed_point}
use Rattle.cose_gate_core.proofs.output.output_is_fixed.Goals as goal

pub returns : goal.returns
returns c = record {
  there = λ l k allows aad at to b ss rest levels layers p low few. fixed_run l k allows aad levels layers at b ss rest p low few to;
  fixed = λ l k allows aad at to b ss rs rest more levels layers p low few q. fixed_point l k allows aad levels layers at b ss rest p low few to rs more q;
}
