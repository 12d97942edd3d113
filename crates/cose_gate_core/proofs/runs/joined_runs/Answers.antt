use Rattle.cose_gate_core.proofs.Placed.{placed}
use Rattle.cose_gate_core.proofs.Fronts.{joined_run, joined_entries, joined_questions, joined_output, joined_alike, joined_rest}
use Rattle.cose_gate_core.proofs.runs.joined_runs.Goals as goal
use Rattle.std.proofs.Common.{◌++◌}

pub returns : goal.returns
returns c = record {
  there = λ limits allows aad at a b ss rs rest p q.
      (placed 1 at (ss ++ rs), joined_run limits allows aad at a b ss rs rest p q, joined_entries limits allows aad at a b ss rs rest p q);
  joined = λ limits allows aad at a b ss rs ts rest more p q r. record {
    questions = joined_questions limits allows aad at a b ss rs rest p q ts more r;
    output = joined_output limits allows aad at a b ss rs rest p q ts more r;
    entries = joined_alike limits allows aad at a b ss rs rest p q ts more r;
    rest_is = joined_rest limits allows aad at a b ss rs rest p q ts more r;
  };
}
