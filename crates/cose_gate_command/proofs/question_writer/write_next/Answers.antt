use Rattle.std.proofs.Common.{◌≡◌, ℕ, List, sym, subst, ◌∙◌}
use Rattle.cose_gate_command.specs.Lines.{parts_of}
use Rattle.cose_gate_command.proofs.Arriving.{at_no_err, at_ok, not_handed_on, of_ok}
use Rattle.cose_gate_command.proofs.question_writer.write_next.Goals as goal

pub returns-then-is_err-2-clause-next : goal.returns-then-is_err-2-clause-next
returns-then-is_err-2-clause-next g c = at_ok c.args.written _ (λ q parts.
    not_handed_on g.W.Write c.args.out.now c.write_question.new.out c.flush.new.self c.write_question.result c.flush.result _
    (sym c.is_err.ensures.value ∙ c.if-is_err.false) (c.write_question.ensures.sent q
    (subst (λ (z : List ℕ). ◌≡◌ {A = List ℕ × List ℕ} (c.args.fields.now, z) (parts_of c.args.form q)) (sym c.deref.ensures.value) (of_ok c.args.made _ c.in-Ok.record c.in-Ok.is parts))) c.flush.ensures.same c.flush.ensures.failed
    (sym c.is_err-2.ensures.value ∙ c.if-is_err-2.true) (c.flush.ensures.kept ∙ c.write_question.ensures.lent))

pub returns-clause-handed : goal.returns-clause-handed
returns-clause-handed g c = at_no_err c.flush.result _ (sym c.is_err-2.ensures.value ∙ c.if-is_err-2.false) c.flush.ensures.handed
