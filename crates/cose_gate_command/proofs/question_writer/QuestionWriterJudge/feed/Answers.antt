use Rattle.std.proofs.Common.{◌≡◌, ◌++◌}
use Rattle.std.specs.Prelude.{string_bytes}
use Rattle.cose_gate_records.specs.Kept.{IsHeld}
use Rattle.cose_gate_command.specs.Lines.{fields_in}
use Rattle.cose_gate_command.proofs.Arriving.{also_so}
use Rattle.cose_gate_command.proofs.question_writer.QuestionWriterJudge.feed.Goals as goal

pub returns-clause-holds : goal.returns-clause-holds
returns-clause-holds g c =
    let old = c.args.self.now in
    also_so c.feed.result (λ subject bytes. IsHeld old.begun.now.held subject bytes) (λ subject bytes. IsHeld c.feed.new.self subject (bytes ++ c.args.piece.now))
    (λ subject. string_bytes old.begun.now.fields ≡ fields_in old.form subject) c.feed.ensures.holds
