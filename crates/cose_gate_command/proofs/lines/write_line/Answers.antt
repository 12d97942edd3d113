use Rattle.std.proofs.Common.{List, ℕ, refl, subst}
use Rattle.cose_gate_command.specs.Asking.{SentText}
use Rattle.cose_gate_command.specs.Read.{texts_read}
use Rattle.cose_gate_command.proofs.RecordLine.{no_record, one_line}
use Rattle.cose_gate_command.proofs.lines.write_line.Goals as goal

pub returns-in-Some-clause-sent : goal.returns-in-Some-clause-sent
returns-in-Some-clause-sent g c = λ q e.
    let question = c.in-Some.question in
    subst (λ (z : List ℕ). SentText g.W.Write c.args.out.now c.write_fields.new.out c.write_fields.result z)
    (one_line c.args.record.now c.args.fields.now question.kind (texts_read question) c.well_formed.1.0.0 refl c.in-Some.ensures q e) c.write_fields.ensures.sent

pub returns-in-None-clause-sent : goal.returns-in-None-clause-sent
returns-in-None-clause-sent g c = λ q e. absurd (no_record c.args.record.now c.in-None.ensures q e)
