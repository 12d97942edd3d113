use Rattle.cose_gate.specs.Findings.{usual}
use Rattle.callers.proofs.Checked.{is_answered}
use Rattle.callers.proofs.checking.is_tagged.Goals as goal

pub returns : goal.returns
returns g c =
    is_answered c.stream_check.result _ _ _ _ _ _ _ _ _ _ _ _ c.new-judge.ensures
    (λ t m aad j. c.judged_can_be_written.ensures.questions usual t m aad j) c.stream_check.ensures.ok
