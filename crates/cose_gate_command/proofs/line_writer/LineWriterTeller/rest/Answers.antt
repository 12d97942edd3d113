use Rattle.cose_gate_command.proofs.RunLines.{says_flushed, handed_rest}
use Rattle.cose_gate_command.proofs.line_writer.LineWriterTeller.rest.Goals as goal

pub invariant_of-self : goal.invariant_of-self
invariant_of-self g c = let s = c.args.self.now in record {
  is = says_flushed g.W.Write s.manner.verbose s.manner.kept s.was.now.items _ _ _ s.is c.hand_on.ensures.nothing;
  handed = handed_rest g.W.Write s.manner.verbose s.manner.kept s.was.now.items _ _ _ s.is c.hand_on.ensures.nothing c.hand_on.ensures.handed;
}
