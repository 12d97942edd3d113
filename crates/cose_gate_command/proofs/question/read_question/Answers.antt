use Rattle.std.proofs.Common.{[], sym, ◌∙◌}
use Rattle.std.proofs.lemmas.List.{append-nil}
use Rattle.cose_gate_command.specs.Read.{key_with, texts_read}
use Rattle.cose_gate_command.proofs.Keys as keys
use Rattle.cose_gate_command.proofs.question.read_question.Goals as goal

pub returns-in_err-key : goal.returns-in_err-key
returns-in_err-key c = rw c.from_residual.ensures (λ k texts seven e. c.in_err-key.ensures (key_with k texts) [] (e ∙ sym (append-nil _)))

pub returns-then-is_empty : goal.returns-then-is_empty
returns-then-is_empty c = keys.whole c.args.bytes.now c.in_ok-key.key.now c.in_ok-key.rest.now c.well_formed.0.0 c.in_ok-key.ensures
    (keys.no_texts c.in_ok-key.rest.now c.is_empty.result c.is_empty.ensures c.if-is_empty.true) (λ q. key_with q.kind (texts_read q)) c.read_key.result c.read_key.ensures

pub returns-else-is_empty : goal.returns-else-is_empty
returns-else-is_empty c = λ k texts seven e.
    keys.more_left c.args.bytes.now c.in_ok-key.key.now c.in_ok-key.rest.now (key_with k texts) c.is_empty.result c.well_formed.0.0 c.in_ok-key.ensures c.is_empty.ensures c.if-is_empty.false e
