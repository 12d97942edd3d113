use Rattle.cose_gate_command.proofs.Arriving.{writes_next, next_handed, one_more, by_record}
use Rattle.cose_gate_command.proofs.question_writer.QuestionWriterJudge.decide.Goals as goal

pub invariant_of-self : goal.invariant_of-self
invariant_of-self g c =
    let old = c.args.self.now in
    let next = c.write_next-self in record {
      are_out = writes_next g.W.Write old.form old.was old.out.now _ old.written _ old.sent _ old.told.now _ _ old.are_out next.ensures.before (by_record _ old.form (λ v. v.items) old.written _ _ c.record-record.result c.record-record.ensures next.ensures.next)
          (rw c.is_ok.ensures.value at c.count.ensures) (one_more old.told.now.items c.new-parts.result _ c.and-self.ensures c.new-parts.ensures);
      handed = next_handed g.W.Write _ _ _ next.ensures.handed;
    }
