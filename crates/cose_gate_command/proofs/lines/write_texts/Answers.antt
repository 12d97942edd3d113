use Rattle.std.proofs.Common.{[], arith}
use Rattle.cose_gate_command.specs.Lines.{next_field}
use Rattle.cose_gate_command.proofs.Sending as sending
use Rattle.cose_gate_command.proofs.lines.write_texts.Goals as goal

pub returns-in_err-write_all-clause-sent : goal.returns-in_err-write_all-clause-sent
returns-in_err-write_all-clause-sent g c =
    let e = c.in_err-write_all.ensures in
    sending.sent_torn g.W.Write c.args.out.now c.write_all.new.self c.from_residual.result _ c.from_residual.ensures.0
    (sending.torn_next g.W.Write (λ t. next_field t.now) c.args.texts.now c.loop-text.text-index (record { ref_ptr = c.args.texts.ref_ptr; now = [] }) c.args.out.now c.loop-text.out c.write_all.new.self (omega arith) c.loop-text.invariant.sent
    (sending.torn_more g.W.Write c.loop-text.out c.write_all.new.self _ _ (e.failed, e.err)))

pub returns-in_err-write_field-clause-sent : goal.returns-in_err-write_field-clause-sent
returns-in_err-write_field-clause-sent g c =
    let e = c.in_ok-write_all.ensures in
    sending.sent_torn g.W.Write c.args.out.now c.write_field.new.out c.from_residual-in_err-write_field.result _ c.from_residual-in_err-write_field.ensures.0
    (sending.torn_next g.W.Write (λ t. next_field t.now) c.args.texts.now c.loop-text.text-index _ c.args.out.now c.loop-text.out c.write_field.new.out (omega arith) c.loop-text.invariant.sent
    (sending.torn_after g.W.Write c.loop-text.out c.write_all.new.self c.write_field.new.out _ _ (e.failed, e.ok) c.in_err-write_field.ensures.sent))

pub returns-clause-sent : goal.returns-clause-sent
returns-clause-sent g c =
    sending.wrote_all g.W.Write (λ t. next_field t.now) c.args.texts.now c.loop-text.text-index c.args.out.now c.loop-text.out c.loop-text-test.false c.loop-text.invariant.sent
