use Rattle.cose_gate_core.proofs.Placed.{placed, run_told}
use Rattle.cose_gate_core.proofs.Fronts.{without_run, with_questions, without_questions, without_output, without_rest}
use Rattle.cose_gate_core.proofs.runs.refused_taken_out.Goals as goal
use Rattle.std.proofs.Common.{◌++◌}

pub returns : goal.returns
returns c = record {
  whole = λ limits allows aad at b ss rest p. (run_told limits allows aad at b ss rest p).whole;
  there = λ limits allows aad at b xs s ys rest p. (placed 1 at (xs ++ ys), without_run limits allows aad at b xs s ys rest p);
  left_out = λ limits allows aad at b xs s ys ts rest more p r. record {
    questions = with_questions limits allows aad at b xs s ys rest p;
    others = without_questions limits allows aad at b xs s ys rest p ts more r;
    output = λ e. without_output limits allows aad at b xs s ys rest p ts more r e;
    rest_is = without_rest limits allows aad at b xs s ys rest p ts more r;
  };
}
