use Rattle.cose_gate_command.proofs.RunLines.{adds_flushed}
use Rattle.cose_gate_command.proofs.more.say_keys.Goals as goal

pub returns : goal.returns
returns g c = adds_flushed g.W.Write _ _ _ c.write_more.ensures c.hand_on.ensures.nothing
