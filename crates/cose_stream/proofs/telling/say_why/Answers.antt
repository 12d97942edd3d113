use Rattle.std.proofs.Common.{true}
use Rattle.cose_gate_command.proofs.RunLines.{adds_nothing}
use Rattle.cose_stream.proofs.telling.say_why.Goals as goal

pub returns-in-Ok : goal.returns-in-Ok
returns-in-Ok g c = adds_nothing g.E.Write true _
