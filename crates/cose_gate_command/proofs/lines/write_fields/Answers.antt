use Rattle.std.proofs.Common.{List, ℕ, [], ◌∷◌, ◌++◌, codes, flat_map, subst, ◌∙◌}
use Rattle.cose_gate_command.specs.Lines.{name_of, next_field}
use Rattle.cose_gate_command.specs.Read.{texts_read}
use Rattle.cose_gate_command.proofs.Sending as sending
use Rattle.cose_gate_command.proofs.Sending.{Wrote, Torn}
use Rattle.cose_gate_command.proofs.lines.write_fields.Goals as goal

pub returns-in_err-write_all-clause-sent : goal.returns-in_err-write_all-clause-sent
returns-in_err-write_all-clause-sent g c =
    let e = c.in_err-write_all.ensures in
    let q = c.args.question.now in
    let end = c.write_all.new.self in
    let texts = flat_map next_field (texts_read q ++ c.args.record.now ∷ []) in
    sending.sent_torn g.W.Write c.args.out.now end c.from_residual.result _ c.from_residual.ensures.0
    (sending.torn_more g.W.Write c.args.out.now end (name_of q.kind) (c.args.fields.now ++ (texts ++ codes "\n"))
    (subst (λ (z : List ℕ). Torn g.W.Write c.args.out.now end z) (c.as_bytes.ensures.value ∙ c.name_of.ensures) (e.failed, e.err)))

pub returns-in_err-write_all-2-clause-sent : goal.returns-in_err-write_all-2-clause-sent
returns-in_err-write_all-2-clause-sent g c =
    let a = c.in_ok-write_all.ensures in
    let e = c.in_err-write_all-2.ensures in
    let q = c.args.question.now in
    let mid = c.write_all.new.self in
    let end = c.write_all-2.new.self in
    let texts = flat_map next_field (texts_read q ++ c.args.record.now ∷ []) in
    sending.sent_torn g.W.Write c.args.out.now end c.from_residual-in_err-write_all-2.result _ c.from_residual-in_err-write_all-2.ensures.0
    (sending.torn_after g.W.Write c.args.out.now mid end (name_of q.kind) (c.args.fields.now ++ (texts ++ codes "\n"))
    (subst (λ (z : List ℕ). Wrote g.W.Write c.args.out.now mid z) (c.as_bytes.ensures.value ∙ c.name_of.ensures) (a.failed, a.ok))
    (sending.torn_more g.W.Write mid end c.args.fields.now (texts ++ codes "\n") (e.failed, e.err)))

pub returns-in_err-write_texts-clause-sent : goal.returns-in_err-write_texts-clause-sent
returns-in_err-write_texts-clause-sent g c =
    let a = c.in_ok-write_all.ensures in
    let b = c.in_ok-write_all-2.ensures in
    let q = c.args.question.now in
    let mid = c.write_all.new.self in
    let then = c.write_all-2.new.self in
    let end = c.write_texts.new.out in
    let texts = flat_map next_field (texts_read q ++ c.args.record.now ∷ []) in
    sending.sent_torn g.W.Write c.args.out.now end c.from_residual-in_err-write_texts.result _ c.from_residual-in_err-write_texts.ensures.0
    (sending.torn_after g.W.Write c.args.out.now mid end (name_of q.kind) (c.args.fields.now ++ (texts ++ codes "\n"))
    (subst (λ (z : List ℕ). Wrote g.W.Write c.args.out.now mid z) (c.as_bytes.ensures.value ∙ c.name_of.ensures) (a.failed, a.ok))
    (sending.torn_after g.W.Write mid then end c.args.fields.now (texts ++ codes "\n") (b.failed, b.ok)
    (sending.torn_more g.W.Write then end texts (codes "\n") c.in_err-write_texts.ensures.sent)))

pub returns-clause-sent : goal.returns-clause-sent
returns-clause-sent g c =
    let a = c.in_ok-write_all.ensures in
    let b = c.in_ok-write_all-2.ensures in
    let q = c.args.question.now in
    let mid = c.write_all.new.self in
    let then = c.write_all-2.new.self in
    let last = c.write_texts.new.out in
    let end = c.write_all-3.new.self in
    let texts = flat_map next_field (texts_read q ++ c.args.record.now ∷ []) in
    sending.sent_after g.W.Write c.args.out.now mid end c.write_all-3.result (name_of q.kind) (c.args.fields.now ++ (texts ++ codes "\n"))
    (subst (λ (z : List ℕ). Wrote g.W.Write c.args.out.now mid z) (c.as_bytes.ensures.value ∙ c.name_of.ensures) (a.failed, a.ok))
    (sending.sent_after g.W.Write mid then end c.write_all-3.result c.args.fields.now (texts ++ codes "\n") (b.failed, b.ok)
    (sending.sent_after g.W.Write then last end c.write_all-3.result texts (codes "\n") c.in_ok-write_texts.ensures.sent
    (sending.sent_by g.W.Write last end c.write_all-3.result (codes "\n") c.write_all-3.ensures.ok c.write_all-3.ensures.err c.write_all-3.ensures.failed)))
