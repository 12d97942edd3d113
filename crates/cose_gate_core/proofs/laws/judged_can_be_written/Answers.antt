use Rattle.cose_gate_core.proofs.Written.{judged_questions, judged_text}
use Rattle.cose_gate_core.proofs.laws.judged_can_be_written.Goals as goal

pub returns : goal.returns
returns c = record { questions = judged_questions; text = judged_text }
