use Rattle.std.proofs.Common.{inr}
use Rattle.cose_gate_core.proofs.gating.hand_over.Goals as goal

pub returns-then-is_whole-clause-handed : goal.returns-then-is_whole-clause-handed
returns-then-is_whole-clause-handed g c = λ live. inr (c.held.result.now, c.is_whole.ensures c.if-is_whole.true, c.held.ensures.front)
