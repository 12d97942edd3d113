use Rattle.std.proofs.Common.{true}
use Rattle.cose_gate_program.proofs.Handed.{handed_after}
use Rattle.cose_gate_command.proofs.RunLines.{adds_both, adds_flushed, adds_nothing}
use Rattle.cose_gate_command.proofs.more.say_more.Goals as goal

pub returns-in_default-clause-said : goal.returns-in_default-clause-said
returns-in_default-clause-said g c = adds_nothing g.W.Write true _

pub returns-clause-said : goal.returns-clause-said
returns-clause-said g c = adds_flushed g.W.Write _ _ _ (adds_both g.W.Write _ _ _ (adds_both g.W.Write _ _ _ c.write_more.ensures c.write_more-2.ensures) c.write_more-3.ensures) c.hand_on.ensures.nothing

pub returns-clause-handed : goal.returns-clause-handed
returns-clause-handed g c =
    let said = adds_both g.W.Write _ _ _ (adds_both g.W.Write _ _ _ c.write_more.ensures c.write_more-2.ensures) c.write_more-3.ensures in
    λ steady none. handed_after g.W.Write _ _ _ said.2.1.0 c.hand_on.ensures.nothing.1.0 c.hand_on.ensures.handed steady
