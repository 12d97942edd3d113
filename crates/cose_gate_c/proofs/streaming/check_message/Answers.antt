use Rattle.std.proofs.Common.{inl, inr}
use Rattle.cose_gate_c.specs.Streaming.{no_keys}
use Rattle.cose_gate_c.proofs.Streamed.{ran_within}
use Rattle.cose_gate_c.proofs.streaming.check_message.Goals as goal

pub returns-in-Ok : goal.returns-in-Ok
returns-in-Ok c = ran_within _ _ _ _ _ _ _ _ _ c.in-Some.ensures c.in-Ok.ensures c.check_front.ensures

pub returns-in_default-error : goal.returns-in_default-error
returns-in_default-error c =
    elim c.in-Err.ensures [ inl memory ↦ absurd (c.in_default-error.not-Memory memory) | inr wrong ↦ no_keys _ c.in-Some.ensures.0 wrong c.unchecked-in_default-error.ensures ]
