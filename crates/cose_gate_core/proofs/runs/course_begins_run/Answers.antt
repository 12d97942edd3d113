use Rattle.cose_gate_core.proofs.Fronts.{begins_items, begins_questions, begins_output, begins_entries}
use Rattle.cose_gate_core.proofs.runs.course_begins_run.Goals as goal

pub returns : goal.returns
returns c = λ limits allows aad at b ss rs more rest p q. record {
  items = begins_items limits allows aad at b ss rs more rest p q;
  questions = begins_questions limits allows aad at b ss rs more rest p q;
  output = begins_output limits allows aad at b ss rs more rest p q;
  entries = begins_entries limits allows aad at b ss rs more rest p q;
}
