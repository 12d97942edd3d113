use Rattle.std.proofs.Common.{true}
use Rattle.cose_gate_command.proofs.RunLines.{adds_nothing}
use Rattle.cose_gate_command.proofs.more.say_fault.Goals as goal

pub returns-in_default : goal.returns-in_default
returns-in_default g c = adds_nothing g.W.Write true _
