use Rattle.cose_gate_command.proofs.RunLines.{says_line, says_more, handed_line}
use Rattle.cose_gate_command.proofs.line_writer.LineWriterTeller.tell.Goals as goal

pub invariant_of-self : goal.invariant_of-self
invariant_of-self g c =
    let s = c.args.self.now in
    let told = says_line g.W.Write s.manner.verbose s.manner.kept s.was.now.items _ _ s.told.now.items c.args.notice.now s.is c.write_shown.ensures.wrote in
    record {
      is = rw c.and-self.ensures (says_more g.W.Write s.manner.verbose s.manner.kept s.was.now.items _ _ _ told c.explain.ensures.said);
      handed = rw c.and-self.ensures (handed_line g.W.Write s.manner.verbose s.manner.kept s.was.now.items _ _ _ s.told.now.items c.args.notice.now s.is c.write_shown.ensures.wrote c.write_shown.ensures.handed c.explain.ensures.said c.explain.ensures.handed);
    }
