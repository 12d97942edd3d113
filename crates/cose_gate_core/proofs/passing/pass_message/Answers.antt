use Rattle.std.proofs.Common.{sym}
use Rattle.cose_gate_core.proofs.InOrder.{err_is}
use Rattle.cose_gate_core.proofs.Items.{taken_no, taken_yes, half_written}
use Rattle.cose_gate_core.proofs.Written.{text_is_put}
use Rattle.cose_gate_core.proofs.passing.pass_message.Goals as goal

pub returns-in-Some-clause-handled : goal.returns-in-Some-clause-handled
returns-in-Some-clause-handled g c = λ b t is. taken_no _ b _ _ _ _ (g.M.Message.message c.args.message.now) _ is (rw c.in-Some.is at c.in_ok-index.ensures.answer) c.in_ok-index.ensures.told

pub returns-in_ok-write_message-in-None-clause-handled : goal.returns-in_ok-write_message-in-None-clause-handled
returns-in_ok-write_message-in-None-clause-handled g c = λ b t is.
    taken_yes _ b _ _ _ _ _ (g.M.Message.message c.args.message.now) is (rw c.in-None.is at c.in_ok-index.ensures.answer) c.in_ok-index.ensures.told
    (rw (sym (text_is_put (g.M.Message.message c.args.message.now) c.requires.put)) at c.in_ok-write_message-in-None.ensures.ok)

pub returns-in_err-write_message-in-None-clause-handled : goal.returns-in_err-write_message-in-None-clause-handled
returns-in_err-write_message-in-None-clause-handled g c = λ b t is.
    rw (err_is _ _ c.from_residual-in_err-write_message-in-None.ensures.1)
    (half_written _ b _ _ _ _ _ (g.M.Message.message c.args.message.now) _ is (rw c.in-None.is at c.in_ok-index.ensures.answer) c.in_ok-index.ensures.told
    (rw (sym (text_is_put (g.M.Message.message c.args.message.now) c.requires.put)) at c.in_err-write_message-in-None.ensures.err))
