use Rattle.cose_gate_command.proofs.RunLines.{adds_nothing}
use Rattle.cose_gate_command.proofs.line_writer.explain.Goals as goal

pub returns-then-is_left_out-clause-said : goal.returns-then-is_left_out-clause-said
returns-then-is_left_out-clause-said g c = adds_nothing g.W.Write c.args.manner.verbose _
