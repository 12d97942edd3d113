use Rattle.cose_gate_program.proofs.Handed.{handed_none}
use Rattle.cose_gate_command.proofs.RunLines.{says_nothing}
use Rattle.cose_gate_command.proofs.line_writer.LineWriter.new.Goals as goal

pub invariant_of-result : goal.invariant_of-result
invariant_of-result g c = record {
  is = says_nothing g.W.Write _ _ _ _ _ c.requires c.new.ensures;
  handed = handed_none g.W.Write _ _ _ c.new.ensures;
}
