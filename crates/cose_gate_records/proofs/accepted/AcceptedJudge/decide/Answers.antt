use Rattle.std.proofs.Common.{◌≡◌, refl}
use Rattle.cose_gate_records.proofs.Asked.{answers_by}
use Rattle.cose_gate_records.proofs.accepted.AcceptedJudge.decide.Goals as goal

pub returns-clause-answer : goal.returns-clause-answer
returns-clause-answer c = λ subject bytes held. answers_by _ _ _ _ subject bytes _ held.0 held.1 c.is_among.ensures
