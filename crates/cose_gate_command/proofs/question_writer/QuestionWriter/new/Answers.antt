use Rattle.std.proofs.Common.{List, ◌++◌, ◌∷◌, [], ap, ◌∙◌}
use Rattle.cose_gate_command.proofs.Arriving.{none_handed, none_written}
use Rattle.cose_gate_command.proofs.question_writer.QuestionWriter.new.Goals as goal

pub invariant_of-result : goal.invariant_of-result
invariant_of-result g c = record {
  are_out = none_written g.W.Write _ _ _ _ _ (c.and-was.ensures ∙ ap (λ (z : List _). z ++ c.args.out.now ∷ []) c.new-2.ensures) c.new-3.ensures c.new.ensures;
  handed = none_handed g.W.Write _ _ (c.and-was.ensures ∙ ap (λ (z : List _). z ++ c.args.out.now ∷ []) c.new-2.ensures);
}
